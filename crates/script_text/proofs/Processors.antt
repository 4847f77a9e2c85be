-- The calls of processors, with lists for those up to a number.
use Rattle.std.proofs.Common.{◌≡◌, ◌⊎◌, ℕ, zero, suc, ◌<◌, ◌≤◌, List, [], ◌∷◌, ◌++◌, length, get_or, set, refl, sym, ap, ◌∙◌, arith, map, Vec, Ok, Err, subst, ⊎_elim, nat_le, true, false, Result}
use Rattle.std.proofs.lemmas.List.{length-map, map_push, get_or-map, map-set}
use Rattle.std.specs.Prelude.{IfErr, OnOk}
use Rattle.std.proofs.lemmas.Bool.{le-leb, lt-leb}
use Rattle.var_types.specs.declared.call.Call.{Call}
use Rattle.script_text.specs.declared.script_fault.ScriptFault.{ScriptFault}
use Rattle.script_text.specs.declared.script_fault.ScriptFault.TheVariants.{OutOfMemory, TooManyCalls}
use Rattle.script_text.specs.Gives.{IsRefusal}
use Rattle.script_text.specs.Reached.{reached}
use Rattle.script_text.specs.Script.{after_call, most_calls, with_call}

-- what each list holds
abbrev pub held : {A : Type 0} → List (Vec Call A) → List (List Call)
held lists = map (λ v. v.items) lists

-- lists that are reached for one more processor are those that are reached anyway
pub reached-push : (calls : List (List Call)) (n : ℕ) → length calls ≤ n → reached (calls ++ [] ∷ []) n ≡ reached calls n
reached-push [] zero short = refl
reached-push [] (suc n) short = refl
reached-push (c ∷ calls) zero short = absurd (omega (arith, short))
reached-push (c ∷ calls) (suc n) short = ap (λ (rest : List (List Call)). c ∷ rest) (reached-push calls n (omega (arith, short)))

-- where there are enough lists, they are reached already
pub reached-all : (calls : List (List Call)) (n : ℕ) → n < length calls → reached calls n ≡ calls
reached-all [] n within = absurd (omega (arith, within))
reached-all (c ∷ calls) zero within = refl
reached-all (c ∷ calls) (suc n) within = ap (λ (rest : List (List Call)). c ∷ rest) (reached-all calls n (omega (arith, within)))

-- the calls of a processor are the same in the lists that are reached
pub get_or-reached : (calls : List (List Call)) (n : ℕ) → get_or (reached calls n) n [] ≡ get_or calls n []
get_or-reached [] zero = refl
get_or-reached [] (suc n) = get_or-reached [] n
get_or-reached (c ∷ calls) zero = refl
get_or-reached (c ∷ calls) (suc n) = get_or-reached calls n

-- a call more is one at the end of its processor's list
pub with_call-set : (calls : List (List Call)) (n : ℕ) (call : Call)
    → set (reached calls n) n (get_or (reached calls n) n [] ++ call ∷ []) ≡ with_call calls n call
with_call-set [] zero call = refl
with_call-set [] (suc n) call = ap (λ (rest : List (List Call)). [] ∷ rest) (with_call-set [] n call)
with_call-set (c ∷ calls) zero call = refl
with_call-set (c ∷ calls) (suc n) call = ap (λ (rest : List (List Call)). c ∷ rest) (with_call-set calls n call)

-- an empty list behind those that are there
pub held-push : {A : Type 0} (lists : List (Vec Call A)) (list : Vec Call A) (n : ℕ) → list.items ≡ [] → length lists ≤ n
    → reached (held (lists ++ list ∷ [])) n ≡ reached (held lists) n
held-push lists list n none short =
    ap (λ (calls : List (List Call)). reached calls n) (map_push (λ v. v.items) lists list ∙ ap (λ (calls : List Call). held lists ++ calls ∷ []) none)
    ∙ reached-push (held lists) n (omega (arith, short, length-map lists (λ v. v.items)))

-- where there is a list for a processor, all are there
pub held-all : {A : Type 0} (lists : List (Vec Call A)) (n : ℕ) → n < length lists → reached (held lists) n ≡ held lists
held-all lists n within = reached-all (held lists) n (omega (arith, within, length-map lists (λ v. v.items)))

-- a call at the end of a processor's list
module _ {A : Type 0} (before : List (List Call)) (lists : List (Vec Call A)) (n : ℕ) (old : Vec Call A) (call : Call)
    (is : held lists ≡ reached before n) (within : n < length lists) (at : old ≡ get_or lists n old) where
  -- its calls so far
  calls_at : get_or (reached before n) n [] ≡ old.items
  calls_at =
      ap (λ (calls : List (List Call)). get_or calls n []) (sym is) ∙ get_or-map (λ v. v.items) lists n old [] within
      ∙ ap (λ (v : Vec Call A). v.items) (sym at)

  count_at : length (get_or before n []) ≡ length old.items
  count_at = ap length (sym (get_or-reached before n) ∙ calls_at)

  more : (new : Vec Call A) → length old.items < most_calls → new.items ≡ old.items ++ call ∷ [] → after_call before n call ≡ Ok (held (set lists n new))
  more new few put =
      let room : nat_le most_calls (length (get_or before n [])) ≡ false = lt-leb _ _ (omega (arith, few, count_at)) in
      rw room (ap Ok (sym (with_call-set before n call)
      ∙ ap (λ (calls : List Call). set (reached before n) n (calls ++ call ∷ [])) calls_at
      ∙ ap (λ (calls : List Call). set (reached before n) n calls) (sym put)
      ∙ ap (λ (calls : List (List Call)). set calls n new.items) (sym is) ∙ sym (map-set (λ v. v.items) lists n new)))

  full : most_calls ≤ length old.items → after_call before n call ≡ Err (TooManyCalls n most_calls)
  full many = let filled : nat_le most_calls (length (get_or before n [])) ≡ true = le-leb _ _ (omega (arith, many, count_at)) in rw filled refl

  -- it was put there, or it is refused
  pub put_call : {X : Type 0} (result : Result X ScriptFault) (new : Vec Call A)
      → OnOk result ((length old.items < most_calls) × (new.items ≡ old.items ++ call ∷ [])) → OnOk result (after_call before n call ≡ Ok (held (set lists n new)))
  put_call (Ok x) new put = more new put.0 put.1
  put_call (Err e) new put = tt

  pub refused : {X : Type 0} (result : Result X ScriptFault)
      → IfErr result (λ e. (e ≡ OutOfMemory) ⊎ ((most_calls ≤ length old.items) × (e ≡ TooManyCalls n most_calls)))
      → IfErr result (λ e. IsRefusal e (after_call before n call))
  refused (Ok x) why = tt
  refused (Err e) why =
      ⊎_elim (λ memory. subst (λ (e : ScriptFault). IsRefusal e (after_call before n call)) (sym memory) tt)
      (λ many. subst (λ (e : ScriptFault). IsRefusal e (after_call before n call)) (sym many.1) (full many.0)) why
