-- A new record that is written behind others, with the gap behind it.
use Rattle.std.proofs.Common.{◌≡◌, ℕ, ◌+◌, ◌-◌, ◌≤◌, List, ◌++◌, length, take, sym, ap, ◌∙◌, arith, append_assoc}
use Rattle.var_types.proofs.Placed.{front_placed}
use Rattle.var_types.specs.Placed.{placed}
use Rattle.var_types.specs.Room.{align4}
use Rattle.var_region.proofs.NewRecords.{length-new_bytes}
use Rattle.var_region.specs.declared.new_record.NewRecord.{NewRecord}
use Rattle.var_region.specs.NewRecord.{AreValues, CanWrite, new_bytes, new_size}
use Rattle.region_compact.specs.Replace.{gap}

-- the bytes in front of what follows
pub put_front : (new : NewRecord) (out : ℕ) (old one two : List ℕ) → CanWrite new → AreValues new → out + align4 (new_size new) ≤ length old
    → one ≡ placed out (new_bytes 0x3F new) old
    → take (out + new_size new + (align4 (new_size new) - new_size new)) two ≡ take (out + new_size new) one ++ gap (new_size new)
    → take (out + align4 (new_size new)) two ≡ take out old ++ (new_bytes 0x3F new ++ gap (new_size new))
put_front new out old one two can are room first second =
    let size = length-new_bytes 0x3F new (omega arith) (record { can = can; values = are }) in
    let end : out + new_size new + (align4 (new_size new) - new_size new) ≡ out + align4 (new_size new) = omega arith in
    let fit : out + length (new_bytes 0x3F new) ≤ length old = omega arith in
    ap (λ n. take n two) (sym end)
    ∙ second
    ∙ ap (λ bytes. take (out + new_size new) bytes ++ gap (new_size new)) first
    ∙ ap (λ n. take (out + n) (placed out (new_bytes 0x3F new) old) ++ gap (new_size new)) (sym size)
    ∙ ap (λ bytes. bytes ++ gap (new_size new)) (front_placed out (new_bytes 0x3F new) old fit)
    ∙ append_assoc (take out old) (new_bytes 0x3F new) (gap (new_size new))
