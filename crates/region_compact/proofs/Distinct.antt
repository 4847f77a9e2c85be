-- No two of the live records that are kept are of one key.
use Rattle.std.proofs.Common.{◌≡◌, ℕ, ◌+◌, ◌≤◌, ◌<◌, ◌&&◌, ◌||◌, not, Bool, true, false, cond, List, [], ◌∷◌, ◌++◌, refl, sym, ap, ◌∙◌, arith, eqb-true, Option, Some, None}
use Rattle.std.proofs.lemmas.Cmp.{eq_by_cmp_equiv}
use Rattle.std.proofs.lemmas.List.Folds.{list_any-append}
use Rattle.std.specs.BTreeMap.{is_at}
use Rattle.std.specs.Cmp.{Equal-is}
use Rattle.std.specs.List.{list_any}
use Rattle.var_types.proofs.Keys.{key_cmp_total, same_key}
use Rattle.var_types.proofs.Records.{has_all}
use Rattle.var_types.specs.Chosen.{chosen, is_of}
use Rattle.var_types.specs.declared.key.Key.{Key}
use Rattle.var_types.specs.declared.record.Record.{Record}
use Rattle.var_types.specs.Key.{key_cmp}
use Rattle.var_types.specs.Live.{Live, live_of, lives, with_live}
use Rattle.var_types.specs.Record.{Authenticated, next_offset, records}
use Rattle.var_types.specs.Region.{Region, region_lives, region_records}
use Rattle.var_region.proofs.Read.{AreRead, next_onward, place_of, read_all}
use Rattle.var_region.proofs.Stored.{each_region, stored_of}
use Rattle.var_region.specs.Found.{is_here}
use Rattle.var_region.specs.NewRecord.{new_key}
use Rattle.region_compact.specs.Compacted.{is_kept, kept_lives, kept_of, live_room}
use Rattle.region_compact.specs.declared.replace.Replace.{Replace}
use Rattle.region_compact.specs.declared.replace.Replace.TheVariants.{None as Keep, Put, Drop}
use Rattle.region_compact.specs.Laws.{EachKeyOnce, moved}
use Rattle.region_compact.specs.Replace.{added_lives, is_replaced, replaced_key}

-- no two live records are of one key
abbrev pub AreDistinct : List Live → Type 0
AreDistinct [] = Unit {0}
AreDistinct (live ∷ ls) = (list_any (is_of live.key) ls ≡ false) × AreDistinct ls

-- live records stand one behind the other, from an offset on
abbrev Rises : ℕ → List Live → Type 0
Rises from [] = Unit {0}
Rises from (live ∷ ls) = (from ≤ live.at) × Rises (live.at + 1) ls

-- they do so from an earlier offset on
rises_from : (low from : ℕ) (ls : List Live) → low ≤ from → Rises from ls → Rises low ls
rises_from low from [] h rises = tt
rises_from low from (live ∷ ls) h rises = (omega (arith, rises.0), rises.1)

-- the live records of a walk do so
rises_read : (non_volatile : Bool) (bytes : List ℕ) (at : ℕ) (rs : List Record) → AreRead bytes at rs → Rises at (lives Authenticated non_volatile bytes rs)
rises_read nv bytes at [] has = tt
rises_read nv bytes at (r ∷ rs) has =
    let next = next_onward bytes at r has.0 in
    by (live_of Authenticated nv bytes r) refl
    (λ low h. rises_from low (next_offset Authenticated r) (lives Authenticated nv bytes rs) h (rises_read nv bytes (next_offset Authenticated r) rs has.1))
  where
    by : (found : Option Live) → live_of Authenticated nv bytes r ≡ found
        → ((low : ℕ) → low ≤ next_offset Authenticated r → Rises low (lives Authenticated nv bytes rs))
        → Rises at (with_live found (lives Authenticated nv bytes rs))
    by None is rest = let next = next_onward bytes at r has.0 in rest at (omega arith)
    by (Some live) is rest =
        let next = next_onward bytes at r has.0 in
        let stored = stored_of nv bytes r live is in
        let place : live.at ≡ at = ap (λ (l : Live). l.at) stored.same ∙ place_of bytes at r has.0 in
        (omega arith, rest (live.at + 1) (omega arith))

-- those of a region do so
rises_region : (region : Region) → Rises region.first (region_lives region)
unfolding region_lives region_records
rises_region =
    each_region (λ region. Rises region.first (region_lives region))
    (λ bytes first nv. rises_read nv bytes first (records Authenticated bytes first) (read_all bytes first (records Authenticated bytes first) (has_all Authenticated bytes first)))

-- two of one key
pub same_of : (key : Key) (live : Live) → is_of key live ≡ true → key ≡ live.key
same_of key live t = same_key key live.key ((Equal-is (key_cmp key live.key)).0 t)

-- both parts of a test hold
both_true : (a b : Bool) → (a && b) ≡ true → (a ≡ true) × (b ≡ true)
both_true true b h = (refl, h)
both_true false b h = cc

not_true : (b : Bool) → not b ≡ true → b ≡ false
not_true true h = cc
not_true false h = refl

-- what is here is nowhere else
here_once : (found : Option Live) (a b : ℕ) → is_here a found ≡ true → is_here b found ≡ true → a ≡ b
here_once None a b p q = cc
here_once (Some live) a b p q = sym (eqb-true live.at a p) ∙ eqb-true live.at b q

module _ (all : List Live) (replaced : Option Key) where
  -- a key that is kept isn't replaced
  pub kept_other : (live : Live) → is_kept all replaced live ≡ true → is_replaced replaced live.key ≡ false
  kept_other live h = not_true (is_replaced replaced live.key) ((both_true (not (is_replaced replaced live.key)) (is_here live.at (chosen live.key all)) h).0)

  kept_here : (live : Live) → is_kept all replaced live ≡ true → is_here live.at (chosen live.key all) ≡ true
  kept_here live h = (both_true (not (is_replaced replaced live.key)) (is_here live.at (chosen live.key all)) h).1

  -- of a key that is kept no later record is kept
  none_again : (live : Live) → is_kept all replaced live ≡ true → (ls : List Live) (from : ℕ) → live.at < from → Rises from ls
      → list_any (is_of live.key) (kept_of all replaced ls) ≡ false
  none_again live kept [] from low rises = refl
  none_again live kept (l ∷ ls) from low rises =
      by (is_kept all replaced l) refl (is_of live.key l) refl (none_again live kept ls (l.at + 1) (omega (arith, rises.0)) rises.1)
    where
      by : (k : Bool) → is_kept all replaced l ≡ k → (mine : Bool) → is_of live.key l ≡ mine → list_any (is_of live.key) (kept_of all replaced ls) ≡ false
          → list_any (is_of live.key) (cond k (l ∷ kept_of all replaced ls) (kept_of all replaced ls)) ≡ false
      by false k mine m rest = rest
      by true k false m rest = ap (λ b. b || list_any (is_of live.key) (kept_of all replaced ls)) m ∙ rest
      by true k true m rest =
          let key = same_of live.key l m in
          let here : is_here live.at (chosen l.key all) ≡ true = ap (λ q. is_here live.at (chosen q all)) (sym key) ∙ kept_here live kept in
          let same = here_once (chosen l.key all) live.at l.at here (kept_here l k) in
          let above = rises.0 in
          absurd (omega arith)

  -- those kept are distinct, and from others of other keys
  pub distinct_kept : (more : List Live) → AreDistinct more
      → ((live : Live) → is_kept all replaced live ≡ true → list_any (is_of live.key) more ≡ false)
      → (ls : List Live) (from : ℕ) → Rises from ls → AreDistinct (kept_of all replaced ls ++ more)
  distinct_kept more are apart [] from rises = are
  distinct_kept more are apart (live ∷ ls) from rises = by (is_kept all replaced live) refl (distinct_kept more are apart ls (live.at + 1) rises.1)
    where
      by : (k : Bool) → is_kept all replaced live ≡ k → AreDistinct (kept_of all replaced ls ++ more)
          → AreDistinct (cond k (live ∷ kept_of all replaced ls) (kept_of all replaced ls) ++ more)
      by false k rest = rest
      by true k rest = (
        list_any-append (is_of live.key) (kept_of all replaced ls) more
            ∙ (λ i. none_again live k ls (live.at + 1) (omega arith) rises.1 i || apart live k i),
        rest,
      )

-- the keys of two records are alike both ways
pub alike_both : (a b : Key) → is_at (key_cmp a) b ≡ is_at (key_cmp b) a
alike_both a b = (eq_by_cmp_equiv key_cmp_total).symm a b

-- those kept, with the new one, are distinct
pub distinct_after : (region : Region) (replace : Replace) → AreDistinct (kept_lives region (replaced_key replace) ++ added_lives replace)
unfolding kept_lives
distinct_after region replace =
    distinct_kept (region_lives region) (replaced_key replace) (added_lives replace) (alone replace) (apart replace) (region_lives region) region.first (rises_region region)
  where
    alone : (replace : Replace) → AreDistinct (added_lives replace)
    alone Keep = tt
    alone (Put new) = (refl, tt)
    alone (Drop guid name) = tt

    apart : (replace : Replace) (live : Live) → is_kept (region_lives region) (replaced_key replace) live ≡ true → list_any (is_of live.key) (added_lives replace) ≡ false
    apart Keep live kept = refl
    apart (Put new) live kept =
        ap (λ b. b || false) (alike_both live.key (new_key new) ∙ kept_other (region_lives region) (Some (new_key new)) live kept)
    apart (Drop guid name) live kept = refl

-- moved live records are of the same keys
any_moved : (key : Key) (at : ℕ) (ls : List Live) → list_any (is_of key) (moved at ls) ≡ list_any (is_of key) ls
any_moved key at [] = refl
any_moved key at (live ∷ ls) = ap (λ b. is_of key live || b) (any_moved key (at + live_room live) ls)

-- distinct ones that are moved are each the only one of its key
once_moved : (at : ℕ) (ls : List Live) → AreDistinct ls → EachKeyOnce (moved at ls)
once_moved at [] are = tt
once_moved at (live ∷ ls) are = (refl, (any_moved live.key (at + live_room live) ls ∙ are.0, once_moved (at + live_room live) ls are.1))

pub once_kept : (region : Region) (replace : Replace) (at : ℕ) → EachKeyOnce (moved at (kept_lives region (replaced_key replace) ++ added_lives replace))
once_kept region replace at = once_moved at (kept_lives region (replaced_key replace) ++ added_lives replace) (distinct_after region replace)
