-- What a generated script is read as, and which numbers have the same.
use Rattle.std.specs.Prelude.{◌≡◌, ◌↔◌, ℕ, ◌%◌, [], ◌∷◌, length, Ok}
use Rattle.script_text.specs.Script.{script_of}
use Rattle.image_make.specs.Generated.{generated_calls, generated_script, script_calls}

-- each generated script reads back as exactly its calls (this project's own)
abbrev pub GeneratedScriptsAreRead : Type 0
GeneratedScriptsAreRead = (number : ℕ) → script_of (generated_script number) ≡ Ok (generated_calls number ∷ [])

-- each has 4,000 calls (this project's own)
abbrev pub GeneratedScriptsHaveTheirCalls : Type 0
GeneratedScriptsHaveTheirCalls = (number : ℕ) → length (generated_calls number) ≡ script_calls

-- two numbers have one script exactly where they are equal modulo 256 (this project's own)
abbrev pub ScriptsAreOfNumbersModulo256 : Type 0
ScriptsAreOfNumbersModulo256 = (m n : ℕ) → (generated_script m ≡ generated_script n) ↔ (m % 256 ≡ n % 256)
