-- What is printed of a policy text, and of an image by it.
use Rattle.std.specs.Prelude.{◌≡◌, ℕ, List, Option, Ok, Err, IfSome, IsErr, IsOk, IsSomeAnd}
use Rattle.ftw_mount.specs.Mount.{content_geometry}
use Rattle.policy_audit.specs.declared.policy_text_fault.PolicyTextFault.{PolicyTextFault}
use Rattle.policy_audit.specs.Audit.{audit_text}
use Rattle.policy_audit.specs.Entries.{entries_text}
use Rattle.policy_audit.specs.Refusal.{refusal_line}
use Rattle.policy_audit.specs.Text.{policies_of}
use Rattle.var_types.specs.declared.policy.Policy.{Policy}
use Rattle.var_types.specs.Kept.{IsSound, kept}
use Rattle.var_types.specs.Layout.{image_size}

-- the input that is told is a policy text, and this is the script that registers its policies
abbrev pub Registers : Option (List ℕ) → List ℕ → Type 0
Registers input text = IfSome input (λ bytes. (policies : List Policy) × (policies_of bytes ≡ Ok policies) × (text ≡ entries_text policies))

-- the input that is told is no policy text, and this line says why
abbrev pub RefusesPolicies : Option (List ℕ) → List ℕ → Type 0
RefusesPolicies input text = IfSome input (λ bytes. (fault : PolicyTextFault) × (policies_of bytes ≡ Err fault) × (text ≡ refusal_line fault))

-- this is the audit of what the image that is told keeps, which is accepted, is no foreign work and has an image's length, by the policies of
-- the text that is told
pub record Audits (input image : Option (List ℕ)) (size : ℕ) (text : List ℕ) : Type 0 where
  pub length : size ≡ image_size
  pub policies : List Policy
  pub read : IfSome input (λ bytes. policies_of bytes ≡ Ok policies)
  pub shown : IfSome image (λ bytes. IsOk (content_geometry bytes) × IsSound bytes × (text ≡ audit_text policies (kept bytes)))

-- the input is told, and is a policy text or none
abbrev pub IsPolicyText : Option (List ℕ) → Type 0
IsPolicyText input = IsSomeAnd input (λ bytes. IsOk (policies_of bytes))

abbrev pub IsNoPolicyText : Option (List ℕ) → Type 0
IsNoPolicyText input = IsSomeAnd input (λ bytes. IsErr (policies_of bytes))

-- what is left of a source, where it is told, says the same of its policies as what was read of it
abbrev pub ReadsSame : Option (List ℕ) → List ℕ → Type 0
ReadsSame input read = IfSome input (λ bytes. policies_of bytes ≡ policies_of read)
