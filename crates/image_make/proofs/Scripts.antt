-- A script is read as its calls, and tells its number modulo 256.
use Rattle.std.proofs.Common.{◌≡◌, ◌≢◌, ℕ, ◌+◌, ◌-◌, ◌%◌, ◌≤◌, zero, suc, List, [], ◌∷◌, length, map, get_or, Ok, refl, sym, ap, ap₂, ◌∙◌, arith}
use Rattle.std.specs.List.{range_with_len}
use Rattle.var_types.specs.declared.call.Call.{Call}
use Rattle.var_types.specs.declared.call.Call.TheVariants as call
use Rattle.script_text.specs.Script.{calls_from, most_script_bytes, script_of}
use Rattle.image_make.specs.Generated.{first_calls, generated_call, generated_calls, generated_script, lines_text, script_calls}
use Rattle.image_make.proofs.CallLines.{script_of-lines_text}
use Rattle.image_make.proofs.Fronts.{length-first_calls}
use Rattle.image_make.proofs.Readable.{are_readable-first_calls}
use Rattle.image_make.proofs.Sizes.{AreShort, are_short}

-- a script has its calls
pub length-generated_calls : (number : ℕ) → length (generated_calls number) ≡ script_calls
unfolding generated_calls
length-generated_calls number = length-first_calls number script_calls

-- it has few enough bytes
short : (number : ℕ) → length (lines_text (generated_calls number)) ≤ most_script_bytes
unfolding generated_calls
short number = let fits : AreShort 4000 (lines_text (first_calls number 4000)) = are_short number 4000 in omega (arith, fits.rising)

-- it is read as its calls
pub script_of-generated_script : (number : ℕ) → script_of (generated_script number) ≡ Ok (generated_calls number ∷ [])
unfolding generated_script generated_calls
script_of-generated_script number =
    script_of-lines_text (first_calls number script_calls) (are_readable-first_calls number script_calls)
    (omega (arith, length-first_calls number script_calls)) (short number)

-- it isn't empty
no_text : script_of [] ≡ Ok ([] ∷ [])
unfolding script_of calls_from
no_text = refl

pub script_has_bytes : (number : ℕ) → generated_script number ≢ []
script_has_bytes number none =
    let read : Ok (generated_calls number ∷ []) ≡ Ok ([] ∷ []) = sym (script_of-generated_script number) ∙ ap script_of none ∙ no_text in
    let calls : generated_calls number ≡ [] = cc in
    let count : length (generated_calls number) ≡ 0 = ap length calls in
    absurd (omega (arith, count, length-generated_calls number))

-- the first byte of a set, and of the first of calls
set_byte : Call → ℕ
set_byte (call.Set c) = get_or c.bytes 0 0
set_byte _ = 0

front_byte : List Call → ℕ
front_byte [] = 0
front_byte (call ∷ calls) = set_byte call

-- the first byte is the number modulo 256
front_byte-first_calls : (number count : ℕ) → front_byte (first_calls number (suc count)) ≡ number % 256
unfolding front_byte set_byte first_calls generated_call
front_byte-first_calls number count = omega arith

front_byte-generated_calls : (number : ℕ) → front_byte (generated_calls number) ≡ number % 256
unfolding generated_calls
front_byte-generated_calls number = front_byte-first_calls number 3999

-- so a script tells it
pub number_of_script : (m n : ℕ) → generated_script m ≡ generated_script n → m % 256 ≡ n % 256
number_of_script m n same =
    let read : Ok (generated_calls m ∷ []) ≡ Ok (generated_calls n ∷ []) =
    sym (script_of-generated_script m) ∙ ap script_of same ∙ script_of-generated_script n in
    let calls : generated_calls m ≡ generated_calls n = cc in
    sym (front_byte-generated_calls m) ∙ ap front_byte calls ∙ front_byte-generated_calls n

-- ---- numbers that are equal modulo 256

same_mod : (m n index : ℕ) → m % 256 ≡ n % 256 → (index + m) % 256 ≡ (index + n) % 256
same_mod m n index same = omega arith

same_name : (m n index : ℕ) → m % 256 ≡ n % 256 → (index + m) % 64 ≡ (index + n) % 64
same_name m n index same = omega arith

-- they have the same calls
same_call : (m n index : ℕ) → m % 256 ≡ n % 256 → generated_call m index ≡ generated_call n index
unfolding generated_call
same_call m n index same = rw (same_mod m n index same, same_name m n index same, same_name m n (index - 1) same) refl

same_front : (m n from count : ℕ) → m % 256 ≡ n % 256 → map (generated_call m) (range_with_len from count) ≡ map (generated_call n) (range_with_len from count)
same_front m n from zero same = refl
same_front m n from (suc count) same = ap₂ (λ (call : Call) (calls : List Call). call ∷ calls) (same_call m n from same) (same_front m n (from + 1) count same)

same_first_calls : (m n count : ℕ) → m % 256 ≡ n % 256 → first_calls m count ≡ first_calls n count
unfolding first_calls
same_first_calls m n count same = same_front m n 0 count same

-- and one script
pub same_script : (m n : ℕ) → m % 256 ≡ n % 256 → generated_script m ≡ generated_script n
unfolding generated_script generated_calls
same_script m n same = ap lines_text (same_first_calls m n script_calls same)
