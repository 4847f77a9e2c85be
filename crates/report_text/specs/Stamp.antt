use Rattle.std.specs.Prelude.{ℕ, ◌==◌, List, codes, if◌then◌else◌}
use Rattle.std.specs.List.{list_all}
use Rattle.var_types.specs.Texts.{bytes_text}
use Rattle.var_types.specs.declared.stamp.Stamp.{Stamp}

-- the stamp of a variable: `-` where it has none, which is all zero, else its bytes (UEFI 2.10, 8.2.2; the text is this project's own)
unfoldable pub stamp_text : Stamp → List ℕ
stamp_text stamp = if list_all (λ b. b == 0) stamp.bytes then codes "-" else bytes_text stamp.bytes
