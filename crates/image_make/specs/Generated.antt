-- The script that a number stands for: 4,000 calls of processor 0, a line each.
use Rattle.std.specs.Prelude.{ℕ, ◌+◌, ◌-◌, ◌/◌, ◌%◌, ◌==◌, List, [], ◌∷◌, ◌++◌, map, flat_map, replicate, nat_lt, if◌then◌else◌}
use Rattle.std.specs.List.{range_with_len}
use Rattle.script_text.specs.ReadBack.{line_of}
use Rattle.var_types.specs.declared.call.Call.{Call}
use Rattle.var_types.specs.declared.call.Call.TheVariants as call
use Rattle.var_types.specs.declared.guid.Guid.{Guid}
use Rattle.var_types.specs.declared.verdict.Verdict.TheVariants.{Good}

-- how many calls a script has (this project's own)
abbrev pub script_calls : ℕ
script_calls = 4000

-- the GUID of the variables that UEFI itself defines, 8be4df61-93ca-11d2-aa0d-00e098032b8c, as it is stored (UEFI 2.10, 3.3,
-- EFI_GLOBAL_VARIABLE)
unfoldable pub global_variable : Guid
global_variable = record {
  bytes = 0x61 ∷ 0xdf ∷ 0xe4 ∷ 0x8b ∷ 0xca ∷ 0x93 ∷ 0xd2 ∷ 0x11 ∷ 0xaa ∷ 0x0d ∷ 0x00 ∷ 0xe0 ∷ 0x98 ∷ 0x03 ∷ 0x2b ∷ 0x8c ∷ [];
}

-- the name `V` with these two decimal digits (this project's own)
abbrev pub numbered_name : ℕ → List ℕ
numbered_name n = 0x56 ∷ (0x30 + n / 10) ∷ (0x30 + n % 10) ∷ []

-- the name of a set at an index, by the index and the number modulo 64 (this project's own)
abbrev pub name_at : ℕ → ℕ → List ℕ
name_at number index = numbered_name ((index + number) % 64)

-- the bytes of a set at an index: from 1 to 200, each the index and the number modulo 256 (this project's own)
abbrev pub bytes_at : ℕ → ℕ → List ℕ
bytes_at number index = replicate (1 + index % 200) ((index + number) % 256)

-- a set of a variable that is non-volatile and that boot and runtime services have (UEFI 2.10, 8.2.3)
abbrev pub set_at : ℕ → ℕ → Call
set_at number index =
    call.Set (record {
      guid = global_variable;
      name = name_at number index;
      attributes = 7;
      bytes = bytes_at number index;
      verdict = Good;
    })

-- a get of the variable of the index before, with room for all its bytes (UEFI 2.10, 8.2.1)
abbrev pub get_at : ℕ → ℕ → Call
get_at number index = call.Get (record { guid = global_variable; name = name_at number (index - 1); room = 256 })

-- a next from the front, with room for its name (UEFI 2.10, 8.2.2)
abbrev pub next_from_front : Call
next_from_front = call.Next (record { guid = global_variable; name = []; room = 64 })

-- the call at an index of the script of a number: two sets, a get and a next in turn (this project's own)
unfoldable pub generated_call : ℕ → ℕ → Call
generated_call number index =
    if nat_lt (index % 4) 2 then set_at number index
    else if index % 4 == 2 then get_at number index
    else next_from_front

-- the first calls of the script of a number, so many
unfoldable pub first_calls : ℕ → ℕ → List Call
first_calls number count = map (generated_call number) (range_with_len 0 count)

-- the calls of the script of a number (this project's own)
unfoldable pub generated_calls : ℕ → List Call
generated_calls number = first_calls number script_calls

-- the line of a call of processor 0, with its line end
abbrev pub line_text : Call → List ℕ
line_text call = line_of 0 call ++ 10 ∷ []

-- the lines of calls of processor 0
unfoldable pub lines_text : List Call → List ℕ
lines_text calls = flat_map line_text calls

-- the script of a number (this project's own)
unfoldable pub generated_script : ℕ → List ℕ
generated_script number = lines_text (generated_calls number)
