-- The length of an image, and the refusals for it.
use Rattle.std.proofs.Common.{◌≡◌, ℕ, ◌/◌, ◌==◌, Bool, true, false, List, length, take, refl, sym, ◌∙◌, Option, Some, None, Result, Ok, Err, IfSome, codes, slice_index}
use Rattle.std.specs.List.{list_all}
use Rattle.std.proofs.lemmas.Bool.{eq-eqb, ne_eqb}
use Rattle.flash_dev.specs.Guids.{authenticated_variable_guid, system_nv_data_guid}
use Rattle.flash_dev.specs.declared.image_fault.ImageFault.{ImageFault}
use Rattle.flash_dev.specs.declared.image_fault.ImageFault.TheVariants.{BadSum, BlockSize, ImageSize, NotAStore, NotAVolume}
use Rattle.flash_dev.specs.Geometry.{are, blocks_check, both_checks, bytes_at, header_sum, is_volume_length, number_at, checked_geometry, geometry_of, image_geometry, store_check, sum_check, tried, volume_check}

-- a check that refuses no length
pub record IsNoSize (r : Result (Unit {0}) ImageFault) : Type 0 where
  pub none : (have want : ℕ) → r ≡ Err (ImageSize have want) → ⊥

-- a check that accepts refuses no length
good_is_none : IsNoSize (Ok tt)
good_is_none = record { none = λ have want e. cc }

-- a condition that is tried refuses none where its own refusal is none
tried_is_none : (holds : Bool) (fault : ImageFault) (rest : Result (Unit {0}) ImageFault)
    → ((have want : ℕ) → fault ≡ ImageSize have want → ⊥) → IsNoSize rest → IsNoSize (tried holds fault rest)
tried_is_none true fault rest other is = is
tried_is_none false fault rest other is = record { none = λ have want e. other have want (cc) }

-- one check and then another refuse none where neither does
both_is_none : (first second : Result (Unit {0}) ImageFault) → IsNoSize first → IsNoSize second → IsNoSize (both_checks first second)
both_is_none (Ok u) second is then = then
both_is_none (Err fault) second is then = record { none = λ have want e. is.none have want (cc) }

-- the checks of the volume's header refuse none
volume_is_none : (first : List ℕ) → IsNoSize (volume_check first)
unfolding volume_check
volume_is_none first =
    let last = tried_is_none (number_at 48 2 first == 72) (NotAVolume 48) (Ok tt) (λ have want e. cc) good_is_none in
    let third = tried_is_none (are (bytes_at 40 4 first) (codes "_FVH")) (NotAVolume 40) _ (λ have want e. cc) last in
    let second = tried_is_none (is_volume_length (number_at 32 8 first)) (NotAVolume 32) _ (λ have want e. cc) third in
    tried_is_none (are (bytes_at 16 16 first) system_nv_data_guid) (NotAVolume 16) _ (λ have want e. cc) second

-- the checks of its blocks refuse none
blocks_is_none : (first : List ℕ) → IsNoSize (blocks_check first)
unfolding blocks_check
blocks_is_none first =
    let last = tried_is_none (list_all (λ b. b == 0) (bytes_at 64 8 first)) (NotAVolume 64) (Ok tt) (λ have want e. cc) good_is_none in
    let second = tried_is_none (number_at 56 4 first == number_at 32 8 first / 4096) (NotAVolume 56) _ (λ have want e. cc) last in
    tried_is_none (number_at 60 4 first == 4096) (BlockSize (number_at 60 4 first)) _ (λ have want e. cc) second

-- the check of its sum refuses none
sum_is_none : (first : List ℕ) → IsNoSize (sum_check first)
unfolding sum_check
sum_is_none first = tried_is_none (header_sum first == 0) (BadSum (header_sum first)) (Ok tt) (λ have want e. cc) good_is_none

-- the checks of the store's header refuse none
store_is_none : (first : List ℕ) → IsNoSize (store_check first)
unfolding store_check
store_is_none first =
    let last = tried_is_none (slice_index first 93 == 254) (NotAStore 93) (Ok tt) (λ have want e. cc) good_is_none in
    let third = tried_is_none (slice_index first 92 == 90) (NotAStore 92) _ (λ have want e. cc) last in
    let second = tried_is_none (number_at 88 4 first == 57272) (NotAStore 88) _ (λ have want e. cc) third in
    tried_is_none (are (bytes_at 72 16 first) authenticated_variable_guid) (NotAStore 72) _ (λ have want e. cc) second

-- what a geometry refuses, a check refuses
checked_refuses : (r : Result (Unit {0}) ImageFault) → IsNoSize r → (have want : ℕ) → checked_geometry r ≡ Err (ImageSize have want) → ⊥
checked_refuses (Ok u) is have want e = cc
checked_refuses (Err fault) is have want e = is.none have want (cc)

-- no header is refused for a length
pub headers_refuse : (first : List ℕ) (have want : ℕ) → geometry_of first ≡ Err (ImageSize have want) → ⊥
unfolding geometry_of
headers_refuse first =
    let both = both_is_none (sum_check first) (store_check first) (sum_is_none first) (store_is_none first) in
    let three = both_is_none (blocks_check first) _ (blocks_is_none first) both in
    checked_refuses _ (both_is_none (volume_check first) _ (volume_is_none first) three)

-- an image of another length is refused for it
pub wrong_size : (told : Option (List ℕ)) (size : ℕ) → IfSome told (λ image. length image ≡ size) → (size ≡ 131072 → ⊥)
    → IfSome told (λ image. Err (ImageSize size 131072) ≡ image_geometry image)
unfolding image_geometry
wrong_size None size law other = tt
wrong_size (Some image) size law other = rw (ne_eqb (length image) 131072 (λ e. other (sym law ∙ e)), law) refl

-- an image of the right length is decided by its headers
pub right_size : (told : Option (List ℕ)) (size : ℕ) (first : List ℕ) → IfSome told (λ image. length image ≡ size) → size ≡ 131072
    → IfSome told (λ image. first ≡ take 100 image) → IfSome told (λ image. geometry_of first ≡ image_geometry image)
unfolding image_geometry
right_size None size first law same read = tt
right_size (Some image) size first law same read = rw (eq-eqb (length image) 131072 (law ∙ same), read) refl
