-- Facts of a result, by whether it is Ok.
use Rattle.std.proofs.Common.{◌≡◌, false}
use Rattle.std.specs.Prelude.{Result, Ok, Err, OnErr, OnOk}
use Rattle.std.specs.Result.{is_err}

module _ {A E : Type 0} (r : Result A E) (P : Type 0) where
  -- what holds on Ok holds where the result isn't an Err
  pub on_ok : false ≡ is_err r → OnOk r P → P
  on_ok h p = by r h p
    where
      by : (r : Result A E) → false ≡ is_err r → OnOk r P → P
      by (Ok x) h p = p
      by (Err e) h p = cc

module _ {A E : Type 0} {P Q : Type 0} where
  -- what follows from what holds on Ok holds there
  pub ok_map : (r : Result A E) → (P → Q) → OnOk r P → OnOk r Q
  ok_map (Ok x) f p = f p
  ok_map (Err e) f p = tt

  -- what follows from what holds on Err holds there
  pub err_map : (r : Result A E) → (P → Q) → OnErr r P → OnErr r Q
  err_map (Ok x) f p = tt
  err_map (Err e) f p = f p
