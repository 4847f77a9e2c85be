-- What is printed of a policy text, and of an image by it, by what was read of the text.
use denote.Ref.{Bor}
use Rattle.std.proofs.Common.{◌≡◌, ◌≢◌, ℕ, ◌<◌, ◌≤◌, Bool, true, false, if◌then◌else◌, inl, inr, ⊎_elim, List, length, take, Option, Some, None, Result, Ok, Err, IfSome, IsOk, refl, sym, ap, subst, ◌∙◌, arith, lit<, true≢false}
use Rattle.std.proofs.lemmas.Bool.{cases_lt, lt-ltb}
use Rattle.std.proofs.lemmas.List.{length-take-le, take_all}
use Rattle.policy_audit.specs.declared.policy_text_fault.PolicyTextFault.{PolicyTextFault}
use Rattle.policy_audit.specs.declared.policy_text_fault.PolicyTextFault.TheVariants.{TooLong}
use Rattle.policy_audit.specs.Entries.{entries_text}
use Rattle.policy_audit.specs.Refusal.{refusal_line}
use Rattle.policy_audit.specs.Text.{most_text_bytes, policies_of}
use Rattle.var_types.specs.declared.policy.Policy.{Policy}
use Rattle.varsvc.specs.declared.image.inspection.Inspection.TheVariants.{Audit}
use Rattle.varsvc.specs.declared.output.plan.Plan.{Plan}
use Rattle.varsvc.specs.Images.{Inspects}
use Rattle.varsvc.specs.Input.{IsInput, most_read}
use Rattle.varsvc.specs.Outcome.{IsText, Row, audit_row, entries_row, inspection_row}
use Rattle.varsvc.specs.Plan.{PlansLine, status_of, text_of}
use Rattle.varsvc.specs.PolicyTexts.{Audits, ReadsSame, RefusesPolicies, Registers}
use Rattle.varsvc.proofs.PlannedTexts.{text_done, text_script}
use Rattle.varsvc.proofs.Plans.{line_text}

-- ---- what was read

-- the first of two where the test holds
chosen : {A : Type 0} (b : Bool) (x y : A) → b ≡ true → (if b then x else y) ≡ x
chosen b x y is = ap (λ c. if c then x else y) is

-- a text that is too long is refused by its length alone
policies_of-long : (text : List ℕ) → most_text_bytes < length text → policies_of text ≡ Err (TooLong most_text_bytes)
unfolding policies_of
policies_of-long text h = chosen _ _ _ (lt-ltb most_text_bytes (length text) h)

-- where more than the limit is read, the rest says nothing more
policies_of-take : (n : ℕ) (text : List ℕ) → most_text_bytes < n → policies_of (take n text) ≡ policies_of text
policies_of-take n text h =
    ⊎_elim
    (λ (gt : n < length text). policies_of-long (take n text) (let e : length (take n text) ≡ n = length-take-le n text (omega arith) in omega arith)
    ∙ sym (policies_of-long text (omega arith)))
    (λ (le : length text ≤ n). ap policies_of (take_all n text le))
    (cases_lt n (length text))

-- what is read says the same of policies as all that was left
pub reads_same : (told : Option (List ℕ)) (read : List ℕ) → IsInput told read → ReadsSame told read
unfolding IsInput
reads_same None read h = tt
reads_same (Some bytes) read h = sym (ap policies_of h ∙ policies_of-take most_read bytes (lit< tt))

-- an answer about what was read is one about what was left
of_told : (told : Option (List ℕ)) (read : List ℕ) (answer : Result (List Policy) PolicyTextFault) → ReadsSame told read → policies_of read ≡ answer
    → IfSome told (λ bytes. policies_of bytes ≡ answer)
of_told None read answer same is = tt
of_told (Some bytes) read answer same is = same ∙ is

two_answers : {e : PolicyTextFault} {x : List Policy} → Path (Result (List Policy) PolicyTextFault) (Err e) (Ok x) → ⊥
two_answers h = cc

-- an input that is a policy text is shorter than what is read at most
pub policies_are_short : (input : List ℕ) (policies : List Policy) → policies_of input ≡ Ok policies → length input < most_read
policies_are_short input policies h =
    ⊎_elim
    (λ (gt : most_text_bytes < length input). absurd (two_answers (sym (policies_of-long input gt) ∙ h)))
    (λ (le : length input ≤ most_text_bytes). omega (arith, le))
    (cases_lt most_text_bytes (length input))

-- ---- the plans

refuses : (told : Option (List ℕ)) (fault : PolicyTextFault) → IfSome told (λ bytes. policies_of bytes ≡ Err fault) → RefusesPolicies told (refusal_line fault)
refuses None fault is = tt
refuses (Some bytes) fault is = (fault, is, refl)

registers : (told : Option (List ℕ)) (policies : List Policy) → IfSome told (λ bytes. policies_of bytes ≡ Ok policies) → Registers told (entries_text policies)
registers None policies is = tt
registers (Some bytes) policies is = (policies, is, refl)

is_read : (told : Option (List ℕ)) (policies : List Policy) → IfSome told (λ bytes. policies_of bytes ≡ Ok policies)
    → IfSome told (λ bytes. IsOk (policies_of bytes))
is_read None policies is = tt
is_read (Some bytes) policies is = subst (λ (r : Result (List Policy) PolicyTextFault). IsOk r) (sym is) refl

module _ (told : Option (List ℕ)) (read : List ℕ) (same : ReadsSame told read) where
  -- the plan of the script that registers policies has the text of its status
  pub entered_text : (policies : List Policy) (plan : Plan) → policies_of read ≡ Ok policies → PlansLine 0 (entries_text policies) plan
      → IsText (entries_row told) (status_of plan) (text_of plan)
  entered_text policies plan is plans =
      line_text (entries_row told) 0 (entries_text policies) plan
      (text_done (entries_row told) (entries_text policies) (registers told policies (of_told told read (Ok policies) same is))) plans tt

  -- so has the plan of the line for a refused text
  pub refused_entries : (fault : PolicyTextFault) (plan : Plan) → policies_of read ≡ Err fault → PlansLine 3 (refusal_line fault) plan
      → IsText (entries_row told) (status_of plan) (text_of plan)
  refused_entries fault plan is plans =
      line_text (entries_row told) 3 (refusal_line fault) plan
      (text_script (entries_row told) (refusal_line fault) (refuses told fault (of_told told read (Err fault) same is)) tt) plans tt

  pub refused_audit : (image : Option (List ℕ)) (size : ℕ) (fault : PolicyTextFault) (plan : Plan) → policies_of read ≡ Err fault
      → PlansLine 3 (refusal_line fault) plan → IsText (audit_row told image size) (status_of plan) (text_of plan)
  refused_audit image size fault plan is plans =
      line_text (audit_row told image size) 3 (refusal_line fault) plan
      (text_script (audit_row told image size) (refusal_line fault) (refuses told fault (of_told told read (Err fault) same is)) tt) plans tt

  -- the inspection of an image by the policies of the text is its audit
  pub audited_text : (image : Option (List ℕ)) (size : ℕ) (policies : Bor (List Policy)) (status : ℕ) (text : List ℕ) → policies_of read ≡ Ok policies.now
      → IsText (inspection_row (Audit policies) image size) status text → IsText (audit_row told image size) status text
  audited_text image size policies status text is shown = record {
    known = shown.known;
    done = λ e. let inspects : Inspects (Audit policies) image size text = shown.done e in record {
      length = inspects.length;
      policies = policies.now;
      read = of_told told read (Ok policies.now) same is;
      shown = inspects.shown;
    };
    usage = shown.usage;
    script = λ e. absurd (shown.script e).0;
    image = λ e. ((is_read told policies.now (of_told told read (Ok policies.now) same is), (shown.image e).0), tt);
    input = λ e. absurd (true≢false (sym (shown.input e).0));
    device = λ e. ((shown.device e).0, (shown.device e).1, tt);
    memory = shown.memory;
  }

-- an inspection reads no source
pub unread_input : (r : Row) (status : ℕ) (text : List ℕ) → r.reads ≡ false → IsText r status text → status ≢ 6
unread_input r status text unread is = λ e. true≢false (sym (is.input e).0 ∙ unread)
