-- The texts that go with statuses.
use Rattle.std.proofs.Common.{◌⊎◌, ℕ, List, refl, inl, inr, arith}
use Rattle.std.specs.Prelude.{IsTrue}
use Rattle.varsvc.specs.FaultLines.{device_line, input_line, memory_line}
use Rattle.varsvc.specs.Outcome.{IsText, LacksMemory, Row}

module _ (r : Row) where
  -- all is done
  pub text_done : (text : List ℕ) → r.output text → IsText r 0 text
  text_done text h = record {
    known = inl refl;
    done = λ e. h;
    usage = λ e. absurd (omega (arith, e));
    script = λ e. absurd (omega (arith, e));
    image = λ e. absurd (omega (arith, e));
    input = λ e. absurd (omega (arith, e));
    device = λ e. absurd (omega (arith, e));
    memory = λ e. absurd (omega (arith, e));
  }

  -- the words are refused
  pub text_usage : (text : List ℕ) → r.usage text → IsText r 2 text
  text_usage text h = record {
    known = inr (inl refl);
    done = λ e. absurd (omega (arith, e));
    usage = λ e. h;
    script = λ e. absurd (omega (arith, e));
    image = λ e. absurd (omega (arith, e));
    input = λ e. absurd (omega (arith, e));
    device = λ e. absurd (omega (arith, e));
    memory = λ e. absurd (omega (arith, e));
  }

  -- the image is refused
  pub text_image : (text : List ℕ) → r.image text → r.untouched → IsText r 4 text
  text_image text h untouched = record {
    known = inr (inr (inr (inl refl)));
    done = λ e. absurd (omega (arith, e));
    usage = λ e. absurd (omega (arith, e));
    script = λ e. absurd (omega (arith, e));
    image = λ e. (h, untouched);
    input = λ e. absurd (omega (arith, e));
    device = λ e. absurd (omega (arith, e));
    memory = λ e. absurd (omega (arith, e));
  }

  -- the call is out of memory, or some reply is
  pub text_lacking : (text : List ℕ) → LacksMemory r text → IsText r 8 text
  text_lacking text h = record {
    known = inr (inr (inr (inr (inr (inr refl)))));
    done = λ e. absurd (omega (arith, e));
    usage = λ e. absurd (omega (arith, e));
    script = λ e. absurd (omega (arith, e));
    image = λ e. absurd (omega (arith, e));
    input = λ e. absurd (omega (arith, e));
    device = λ e. absurd (omega (arith, e));
    memory = λ e. h;
  }

  pub text_memory : r.untouched → IsText r 8 memory_line
  text_memory untouched = text_lacking memory_line (inl (refl, inl untouched))

  -- the line that there is no memory
  pub text_short : r.untouched ⊎ r.unprinted → IsText r 8 memory_line
  text_short why = text_lacking memory_line (inl (refl, why))

  -- the script is refused
  pub text_script : (text : List ℕ) → r.script text → r.untouched → IsText r 3 text
  text_script text h untouched = record {
    known = inr (inr (inl refl));
    done = λ e. absurd (omega (arith, e));
    usage = λ e. absurd (omega (arith, e));
    script = λ e. (h, untouched);
    image = λ e. absurd (omega (arith, e));
    input = λ e. absurd (omega (arith, e));
    device = λ e. absurd (omega (arith, e));
    memory = λ e. absurd (omega (arith, e));
  }

  -- a read of the source failed
  pub text_input : IsTrue r.reads → r.untouched → IsText r 6 input_line
  text_input reads untouched = record {
    known = inr (inr (inr (inr (inl refl))));
    done = λ e. absurd (omega (arith, e));
    usage = λ e. absurd (omega (arith, e));
    script = λ e. absurd (omega (arith, e));
    image = λ e. absurd (omega (arith, e));
    input = λ e. (reads, refl, untouched);
    device = λ e. absurd (omega (arith, e));
    memory = λ e. absurd (omega (arith, e));
  }

  -- a call of the flash failed before anything was done
  pub text_device : IsTrue r.opens → r.unopened → IsText r 7 device_line
  text_device opens unopened = record {
    known = inr (inr (inr (inr (inr (inl refl)))));
    done = λ e. absurd (omega (arith, e));
    usage = λ e. absurd (omega (arith, e));
    script = λ e. absurd (omega (arith, e));
    image = λ e. absurd (omega (arith, e));
    input = λ e. absurd (omega (arith, e));
    device = λ e. (opens, refl, unopened);
    memory = λ e. absurd (omega (arith, e));
  }
