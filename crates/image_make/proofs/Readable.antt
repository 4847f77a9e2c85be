-- The calls of a script are values of their types.
use Rattle.std.proofs.Common.{◌≡◌, ℕ, ◌+◌, ◌%◌, ◌<◌, ◌^◌, zero, suc, Bool, true, false, ltb, [], map, refl, arith, if◌then◌else◌}
use Rattle.std.specs.Prelude.{◌==◌, nat_lt}
use Rattle.std.specs.List.{AllByRecursion, range_with_len}
use Rattle.std.proofs.lemmas.List.Elements.{All-from_recursion, All-replicate, All-weaker}
use Rattle.std.proofs.lemmas.Bool.{ltb-true}
use Rattle.std.proofs.lemmas.List.Sums.{AllPass-from_list_all}
use Rattle.var_types.specs.Guid.{IsGuid}
use Rattle.script_text.specs.ReadBack.{IsCallName, IsReadable}
use Rattle.image_make.specs.Generated.{first_calls, generated_call, get_at, global_variable, next_from_front, numbered_name, set_at}

-- the GUID is one
IsGuid-global_variable : IsGuid global_variable
unfolding global_variable
IsGuid-global_variable = (
  refl,
  All-weaker (λ b. ltb b 256 ≡ true) (λ b. b < 256) (λ b h. ltb-true b 256 h) global_variable.bytes
      (AllPass-from_list_all (λ b. ltb b 256) global_variable.bytes refl),
)

-- two decimal digits are units
IsCallName-numbered_name : (n : ℕ) → n < 64 → IsCallName (numbered_name n)
IsCallName-numbered_name n small = (omega arith, All-from_recursion (λ u. u < 2 ^ 16) (numbered_name n) (omega arith, (omega arith, (omega arith, tt))))

-- the calls of each turn
IsReadable-turns : (number index : ℕ) (set get : Bool) → IsReadable (if set then set_at number index else if get then get_at number index else next_from_front)
IsReadable-turns number index true get = record {
  guid_fits = IsGuid-global_variable;
  name_fits = IsCallName-numbered_name _ (omega arith);
  attributes_fit = omega arith;
  bytes_fit = All-replicate (λ b. b < 2 ^ 8) _ _ (omega arith);
}
IsReadable-turns number index false true = record { guid_fits = IsGuid-global_variable; name_fits = IsCallName-numbered_name _ (omega arith); room_fits = omega arith }
IsReadable-turns number index false false =
    record { guid_fits = IsGuid-global_variable; name_fits = (omega arith, All-from_recursion (λ u. u < 2 ^ 16) [] tt); room_fits = omega arith }

IsReadable-generated_call : (number index : ℕ) → IsReadable (generated_call number index)
unfolding generated_call
IsReadable-generated_call number index = IsReadable-turns number index (nat_lt (index % 4) 2) (index % 4 == 2)

are_readable : (number from count : ℕ) → AllByRecursion IsReadable (map (generated_call number) (range_with_len from count))
are_readable number from zero = tt
are_readable number from (suc count) = (IsReadable-generated_call number from, are_readable number (from + 1) count)

-- so are the first ones
pub are_readable-first_calls : (number count : ℕ) → AllByRecursion IsReadable (first_calls number count)
unfolding first_calls
are_readable-first_calls number count = are_readable number 0 count
