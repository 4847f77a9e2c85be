-- The map of a compacted region is the map of before with the replacement, and its size is the room of that map.
use Rattle.std.proofs.Common.{◌≡◌, ℕ, ◌+◌, ◌==◌, ◌&&◌, ◌||◌, not, Bool, true, false, cond, List, [], ◌∷◌, ◌++◌, length, refl, sym, ap, ◌∙◌, arith, eqb-true, eq-eqb, sum_by, Option, Some, None}
use Rattle.std.proofs.lemmas.Cmp.{eq_by_cmp_equiv}
use Rattle.std.proofs.lemmas.Map.{lookup-remove_entry}
use Rattle.std.proofs.lemmas.Map.Keys.{IsDistinct-from_sorted}
use Rattle.std.specs.BTreeMap.{insert_entry, is_at}
use Rattle.std.specs.Cmp.{Equal-is}
use Rattle.std.specs.List.{AllByRecursion, list_any}
use Rattle.std.specs.List.Sorted.{IsStrictlySortedBy}
use Rattle.std.specs.Map.{keys_of, lookup}
use Rattle.std.specs.Option.{option_or}
use Rattle.var_region.proofs.Read.{read_all, read_of}
use Rattle.var_region.proofs.Stored.{each_region}
use Rattle.var_region.proofs.WhichCounts.{chosen-cons, chosen-other}
use Rattle.var_region.specs.Found.{is_here}
use Rattle.var_region.specs.NewRecord.{new_key, new_live, new_variable}
use Rattle.var_types.proofs.Chosen.{chosen-all, chosen-none, chosen_key}
use Rattle.var_types.proofs.Entries.{lookup-insert_entry, same_entries, sorted-insert_entry}
use Rattle.var_types.proofs.Keys.{key_cmp_total, same_key}
use Rattle.var_types.proofs.Maps.{map_exact}
use Rattle.var_types.proofs.Orders.{sorted-remove_entry}
use Rattle.var_types.proofs.Records.{has_all}
use Rattle.var_types.proofs.Sums.{sum_by-insert_entry, sum_by-remove_entry, weight_at}
use Rattle.var_types.specs.Chosen.{chosen, is_of, variable_of}
use Rattle.var_types.specs.declared.key.Key.{Key}
use Rattle.var_types.specs.declared.record.Record.{Record}
use Rattle.var_types.specs.declared.record_state.RecordState.TheVariants.{Added}
use Rattle.var_types.specs.declared.variable.Variable.{Variable}
use Rattle.var_types.specs.Key.{key_cmp, key_of}
use Rattle.var_types.specs.Live.{Live, live_of}
use Rattle.var_types.specs.Record.{Authenticated, record_at, records}
use Rattle.var_types.specs.Region.{Region, map_of, region_lives, region_map, region_records}
use Rattle.var_types.specs.Room.{room_of}
use Rattle.region_compact.specs.Compacted.{is_kept, kept_lives, kept_of, live_room, rooms, size_after}
use Rattle.region_compact.specs.declared.replace.Replace.{Replace}
use Rattle.region_compact.specs.declared.replace.Replace.TheVariants.{None as Keep, Put, Drop}
use Rattle.region_compact.specs.Laws.{CompactionsKeepTheMap, SizesAreTheRoom, VariablesFit, moved}
use Rattle.var_types.specs.Census.{records_room}
use Rattle.region_compact.proofs.Kept.{kept_within}
use Rattle.region_compact.specs.Replace.{added_lives, added_room, is_replaced, map_after, replaced_key}
use Rattle.region_compact.proofs.Distinct.{AreDistinct, alike_both, distinct_after, same_of}
use Rattle.region_compact.proofs.Orders.{lives_anew}
use Rattle.region_compact.proofs.StoredSizes.{each_stored}

-- the variable of the first live record of a key
abbrev pub first_of : Key → List Live → Option Variable
first_of key [] = None
first_of key (live ∷ ls) = cond (is_of key live) (Some live.variable) (first_of key ls)

-- live records, put as entries one after the other
abbrev pub put_all : List Live → List (Key × Variable)
put_all [] = []
put_all (live ∷ ls) = insert_entry key_cmp (put_all ls) live.key live.variable

-- entries that were put stand in order
pub ordered_all : (ls : List Live) → IsStrictlySortedBy key_cmp (keys_of (put_all ls))
unfolding IsStrictlySortedBy
ordered_all [] = tt
ordered_all (live ∷ ls) = sorted-insert_entry key_cmp_total live.key live.variable (put_all ls) (ordered_all ls)

-- a look-up finds the first live record of the key
pub look_all : (key : Key) (ls : List Live) → lookup (is_at (key_cmp key)) (put_all ls) ≡ first_of key ls
look_all key [] = refl
look_all key (live ∷ ls) =
    lookup-insert_entry key_cmp_total live.key live.variable (put_all ls) key ∙ ap (cond (is_of key live) (Some live.variable)) (look_all key ls)

-- of some live records and others behind them
first-append : (key : Key) (fs ls : List Live) → first_of key (fs ++ ls) ≡ option_or (first_of key fs) (first_of key ls)
first-append key [] ls = refl
first-append key (live ∷ fs) ls = by (is_of key live) (first-append key fs ls)
  where
    by : (mine : Bool) → first_of key (fs ++ ls) ≡ option_or (first_of key fs) (first_of key ls)
        → cond mine (Some live.variable) (first_of key (fs ++ ls)) ≡ option_or (cond mine (Some live.variable) (first_of key fs)) (first_of key ls)
    by true rest = refl
    by false rest = rest

-- of none of the key
pub first-none : (key : Key) (ls : List Live) → list_any (is_of key) ls ≡ false → first_of key ls ≡ None
first-none key [] h = refl
first-none key (live ∷ ls) h = by (is_of key live) h (first-none key ls)
  where
    by : (mine : Bool) → (mine || list_any (is_of key) ls) ≡ false → (list_any (is_of key) ls ≡ false → first_of key ls ≡ None)
        → cond mine (Some live.variable) (first_of key ls) ≡ None
    by true h rest = cc
    by false h rest = rest h

-- the first of the key counts among records that are all ADDED
first-moved : (key : Key) (at : ℕ) (ls : List Live) → variable_of (chosen key (moved at ls)) ≡ first_of key ls
first-moved key at [] = ap variable_of (chosen-none key [] refl)
first-moved key at (live ∷ ls) = by (is_of key live) refl (first-moved key (at + live_room live) ls)
  where
    by : (mine : Bool) → is_of key live ≡ mine → variable_of (chosen key (moved (at + live_room live) ls)) ≡ first_of key ls
        → variable_of (chosen key (moved at (live ∷ ls))) ≡ cond mine (Some live.variable) (first_of key ls)
    by true m rest = ap variable_of (chosen-cons key (record live { at = at; state = Added }) (moved (at + live_room live) ls) m)
    by false m rest = ap variable_of (chosen-other key (record live { at = at; state = Added }) (moved (at + live_room live) ls) m) ∙ rest

-- the map of moved live records
pub map_moved : (at : ℕ) (ls : List Live) → map_of (moved at ls) ≡ put_all ls
map_moved at ls =
    let p = map_exact (moved at ls) in
    same_entries key_cmp_total same_key (map_of (moved at ls)) (put_all ls) p.ordered (ordered_all ls)
    (λ key. p.holds key ∙ first-moved key at ls ∙ sym (look_all key ls))

-- a live record of a region, by its record
abbrev IsAt : Region → Live → Type 0
IsAt region live = (r : Record) × ((record_at Authenticated region.bytes live.at ≡ Some r) × (live_of Authenticated region.non_volatile region.bytes r ≡ Some live))

-- each has its record
each_at : (region : Region) → AllByRecursion (IsAt region) (region_lives region)
unfolding region_lives region_records
each_at =
    each_region (λ region. AllByRecursion (IsAt region) (region_lives region))
    (λ bytes first nv.
    each_stored nv bytes (IsAt (record { form = Authenticated; bytes = bytes; first = first; non_volatile = nv }))
    (λ at r live here stored is.
    let place : live.at ≡ r.at = ap (λ (l : Live). l.at) stored.same in
    let read = read_of bytes at r here in
    (r, (ap (record_at Authenticated bytes) (place ∙ read.place) ∙ here, is)))
    first (records Authenticated bytes first) (read_all bytes first (records Authenticated bytes first) (has_all Authenticated bytes first)))

-- two live records at one place are one
one_place : (region : Region) (c l : Live) → IsAt region c → IsAt region l → c.at ≡ l.at → l ≡ c
one_place region c l p q e =
    let first : Some p.0 ≡ Some q.0 = sym p.1.0 ∙ ap (record_at Authenticated region.bytes) e ∙ q.1.0 in
    let same : p.0 ≡ q.0 = cc in
    let both : Some l ≡ Some c = sym q.1.1 ∙ ap (live_of Authenticated region.non_volatile region.bytes) (sym same) ∙ p.1.1 in
    cc

module _ (all : List Live) (replaced : Option Key) (key : Key) where
  -- where none of the key is kept, there is no first of it
  none_first : ((live : Live) → is_of key live ≡ true → is_kept all replaced live ≡ false) → (ls : List Live) → first_of key (kept_of all replaced ls) ≡ None
  none_first none [] = refl
  none_first none (live ∷ ls) = by (is_of key live) refl (is_kept all replaced live) refl (none_first none ls)
    where
      by : (mine : Bool) → is_of key live ≡ mine → (kept : Bool) → is_kept all replaced live ≡ kept → first_of key (kept_of all replaced ls) ≡ None
          → first_of key (cond kept (live ∷ kept_of all replaced ls) (kept_of all replaced ls)) ≡ None
      by mine m false k rest = rest
      by false m true k rest = ap (λ b. cond b (Some live.variable) (first_of key (kept_of all replaced ls))) m ∙ rest
      by true m true k rest = let no = none live m in cc

  -- where those of the key at a place are kept, their variable is the first of it
  some_first : (c : Live) → ((live : Live) → is_of key live ≡ true → is_kept all replaced live ≡ (c.at == live.at)) → (ls : List Live)
      → AllByRecursion (λ live. c.at ≡ live.at → live ≡ c) ls
      → first_of key (kept_of all replaced ls) ≡ cond (list_any (λ live. is_of key live && (c.at == live.at)) ls) (Some c.variable) None
  some_first c kept [] same = refl
  some_first c kept (live ∷ ls) same = by (is_of key live) refl (c.at == live.at) refl (some_first c kept ls same.1)
    where
      skip : (k : Bool) → is_of key live ≡ false → first_of key (cond k (live ∷ kept_of all replaced ls) (kept_of all replaced ls)) ≡ first_of key (kept_of all replaced ls)
      skip true m = ap (λ b. cond b (Some live.variable) (first_of key (kept_of all replaced ls))) m
      skip false m = refl

      by : (mine : Bool) → is_of key live ≡ mine → (here : Bool) → (c.at == live.at) ≡ here
          → first_of key (kept_of all replaced ls) ≡ cond (list_any (λ live. is_of key live && (c.at == live.at)) ls) (Some c.variable) None
          → first_of key (cond (is_kept all replaced live) (live ∷ kept_of all replaced ls) (kept_of all replaced ls))
          ≡ cond ((mine && here) || list_any (λ live. is_of key live && (c.at == live.at)) ls) (Some c.variable) None
      by false m here h rest = skip (is_kept all replaced live) m ∙ rest
      by true m true h rest =
          ap (λ k. first_of key (cond k (live ∷ kept_of all replaced ls) (kept_of all replaced ls))) (kept live m ∙ h)
          ∙ ap (λ b. cond b (Some live.variable) (first_of key (kept_of all replaced ls))) m
          ∙ ap (λ (l : Live). Some l.variable) (same.0 (eqb-true c.at live.at h))
      by true m false h rest =
          ap (λ k. first_of key (cond k (live ∷ kept_of all replaced ls) (kept_of all replaced ls))) (kept live m ∙ h) ∙ rest

-- what counts for a key is one of the live records
member : (key : Key) (all : List Live) (c : Live) → chosen key all ≡ Some c → list_any (λ live. is_of key live && (c.at == live.at)) all ≡ true
member key all c counts =
    chosen-all (λ found. is_of key found ≡ true → list_any (λ live. is_of key live && (found.at == live.at)) all ≡ true) key all
    (each all (λ test h. h)) c counts (mine (chosen_key key all c counts))
  where
    mine : c.key ≡ key → is_of key c ≡ true
    mine e = ap (λ k. is_at (key_cmp key) k) e ∙ (eq_by_cmp_equiv key_cmp_total).refl key

    head : (found : Live) → is_of key found ≡ true → (ls : List Live) → list_any (λ live. is_of key live && (found.at == live.at)) (found ∷ ls) ≡ true
    head found m ls =
        ap (λ b. (b && (found.at == found.at)) || list_any (λ live. is_of key live && (found.at == live.at)) ls) m
        ∙ ap (λ b. b || list_any (λ live. is_of key live && (found.at == live.at)) ls) (eq-eqb found.at found.at refl)

    later : (a b : Bool) → b ≡ true → (a || b) ≡ true
    later true b h = refl
    later false b h = h

    each : (ls : List Live) → ((test : Live → Bool) → list_any test ls ≡ true → list_any test all ≡ true)
        → AllByRecursion (λ found. is_of key found ≡ true → list_any (λ live. is_of key live && (found.at == live.at)) all ≡ true) ls
    each [] within = tt
    each (found ∷ ls) within = (
      (λ m. within (λ live. is_of key live && (found.at == live.at)) (head found m ls)),
      each ls (λ test h. within test (later (test found) (list_any test ls) h)),
    )

-- of the records kept the first of a key is the one that counted, where the key isn't replaced
kept_first : (region : Region) (replaced : Option Key) (key : Key)
    → first_of key (kept_lives region replaced) ≡ cond (is_replaced replaced key) None (variable_of (chosen key (region_lives region)))
unfolding kept_lives
kept_first region replaced key = by (is_replaced replaced key) refl (chosen key (region_lives region)) refl
  where
    -- whether a record of the key is kept
    mine : (live : Live) → is_of key live ≡ true → is_kept (region_lives region) replaced live ≡ (not (is_replaced replaced key) && is_here live.at (chosen key (region_lives region)))
    mine live m = ap (λ k. not (is_replaced replaced k) && is_here live.at (chosen k (region_lives region))) (sym (same_of key live m))

    same_all : (c : Live) → chosen key (region_lives region) ≡ Some c → (ls : List Live) → AllByRecursion (IsAt region) ls → AllByRecursion (λ live. c.at ≡ live.at → live ≡ c) ls
    same_all c counts [] each = tt
    same_all c counts (live ∷ ls) each = (one_place region c live (chosen-all (IsAt region) key (region_lives region) (each_at region) c counts) each.0, same_all c counts ls each.1)

    by : (gone : Bool) → is_replaced replaced key ≡ gone → (found : Option Live) → chosen key (region_lives region) ≡ found
        → first_of key (kept_of (region_lives region) replaced (region_lives region)) ≡ cond gone None (variable_of found)
    by true g found f = none_first (region_lives region) replaced key (λ live m. mine live m ∙ ap (λ b. not b && is_here live.at (chosen key (region_lives region))) g) (region_lives region)
    by false g None f =
        none_first (region_lives region) replaced key
        (λ live m. mine live m ∙ ap (λ b. not b && is_here live.at (chosen key (region_lives region))) g ∙ ap (is_here live.at) f) (region_lives region)
    by false g (Some c) f =
        some_first (region_lives region) replaced key c
        (λ live m. mine live m ∙ ap (λ b. not b && is_here live.at (chosen key (region_lives region))) g ∙ ap (is_here live.at) f) (region_lives region)
        (same_all c f (region_lives region) (each_at region))
        ∙ ap (λ b. cond b (Some c.variable) None) (member key (region_lives region) c f)

-- what stands at a key after a replacement
after_look : (region : Region) (replace : Replace) (key : Key)
    → first_of key (kept_lives region (replaced_key replace) ++ added_lives replace) ≡ lookup (is_at (key_cmp key)) (map_after replace (region_map region))
unfolding region_map
after_look region replace key =
    first-append key (kept_lives region (replaced_key replace)) (added_lives replace)
    ∙ ap (λ found. option_or found (first_of key (added_lives replace))) (kept_first region (replaced_key replace) key)
    ∙ by replace
  where
    holds : lookup (is_at (key_cmp key)) (map_of (region_lives region)) ≡ (variable_of (chosen key (region_lives region)))
    holds = (map_exact (region_lives region)).holds key

    or_none : (o : Option Variable) → option_or o None ≡ o
    or_none None = refl
    or_none (Some v) = refl

    put : (b : Bool) (v : Variable) → option_or (cond b None (variable_of (chosen key (region_lives region)))) (cond b (Some v) None) ≡ cond b (Some v) (variable_of (chosen key (region_lives region)))
    put true v = refl
    put false v = or_none (variable_of (chosen key (region_lives region)))

    by : (replace : Replace) → option_or (cond (is_replaced (replaced_key replace) key) None (variable_of (chosen key (region_lives region)))) (first_of key (added_lives replace))
        ≡ lookup (is_at (key_cmp key)) (map_after replace (map_of (region_lives region)))
    by Keep = or_none (variable_of (chosen key (region_lives region))) ∙ sym holds
    by (Put new) =
        ap (λ b. option_or (cond b None (variable_of (chosen key (region_lives region)))) (cond (is_of key (new_live 0 new)) (Some (new_variable new)) None)) (alike_both (new_key new) key)
        ∙ put (is_of key (new_live 0 new)) (new_variable new)
        ∙ ap (cond (is_of key (new_live 0 new)) (Some (new_variable new))) (sym holds)
        ∙ sym (lookup-insert_entry key_cmp_total (new_key new) (new_variable new) (map_of (region_lives region)) key)
    by (Drop guid name) =
        let test = is_at (key_cmp (key_of guid name.now)) in
        let laws = eq_by_cmp_equiv key_cmp_total in
        let es = map_of (region_lives region) in
        or_none (cond (test key) None (variable_of (chosen key (region_lives region))))
        ∙ ap (cond (test key) None) (sym holds)
        ∙ sym (lookup-remove_entry laws test (λ x y t. laws.congr (key_of guid name.now) x y t) key es
        (IsDistinct-from_sorted key_cmp (keys_of es) (map_exact (region_lives region)).ordered))

-- a map after a replacement stands in order
ordered_after : (replace : Replace) (es : List (Key × Variable)) → IsStrictlySortedBy key_cmp (keys_of es) → IsStrictlySortedBy key_cmp (keys_of (map_after replace es))
ordered_after Keep es s = s
ordered_after (Put new) es s = sorted-insert_entry key_cmp_total (new_key new) (new_variable new) es s
ordered_after (Drop guid name) es s = sorted-remove_entry key_cmp (is_at (key_cmp (key_of guid name.now))) es s

-- the map after a replacement is that of those kept and the new one
pub after_is : (region : Region) (replace : Replace) → put_all (kept_lives region (replaced_key replace) ++ added_lives replace) ≡ map_after replace (region_map region)
unfolding region_map
after_is region replace =
    let ls = kept_lives region (replaced_key replace) ++ added_lives replace in
    same_entries key_cmp_total same_key (put_all ls) (map_after replace (region_map region)) (ordered_all ls)
    (ordered_after replace (region_map region) (map_exact (region_lives region)).ordered)
    (λ key. look_all key ls ∙ after_look region replace key)

pub CompactionsKeepTheMap-all : CompactionsKeepTheMap
unfolding region_map
CompactionsKeepTheMap-all region replace front left is even =
    ap map_of (lives_anew region replace front left is even)
    ∙ map_moved (length front) (kept_lives region (replaced_key replace) ++ added_lives replace)
    ∙ after_is region replace

-- the room of an entry
abbrev pub entry_room : Key × Variable → ℕ
entry_room entry = room_of entry.0 entry.1

-- the room of distinct live records is that of their entries
rooms_put : (ls : List Live) → AreDistinct ls → rooms ls ≡ sum_by entry_room (put_all ls)
rooms_put [] are = refl
rooms_put (live ∷ ls) are =
    let test = is_at (key_cmp live.key) in
    let es = put_all ls in
    let none : lookup test es ≡ None = look_all live.key ls ∙ first-none live.key ls are.0 in
    let without = sum_by-remove_entry entry_room test live.key (λ q t. sym (same_key live.key q ((Equal-is (key_cmp live.key q)).0 t))) es in
    let weight : weight_at entry_room live.key (lookup test es) ≡ 0 = ap (weight_at entry_room live.key) none in
    let put = sum_by-insert_entry entry_room key_cmp_total same_key live.key live.variable es (ordered_all ls) in
    let rest = rooms_put ls are.1 in
    omega arith

-- the room of some and others
rooms-append : (fs ls : List Live) → rooms (fs ++ ls) ≡ rooms fs + rooms ls
rooms-append [] ls = omega arith
rooms-append (live ∷ fs) ls = omega (arith, rooms-append fs ls)

pub SizesAreTheRoom-all : SizesAreTheRoom
unfolding size_after
SizesAreTheRoom-all region replace =
    ap (λ n. rooms (kept_lives region (replaced_key replace)) + n) (sym (added replace))
    ∙ sym (rooms-append (kept_lives region (replaced_key replace)) (added_lives replace))
    ∙ rooms_put (kept_lives region (replaced_key replace) ++ added_lives replace) (distinct_after region replace)
    ∙ ap (sum_by entry_room) (after_is region replace)
  where
    added : (replace : Replace) → rooms (added_lives replace) ≡ added_room replace
    added Keep = refl
    added (Put new) = omega arith
    added (Drop guid name) = refl

-- the variables of a region of whole multiples of 4 fit into it
pub VariablesFit-all : VariablesFit
unfolding size_after
VariablesFit-all region aligned whole low =
    let same : size_after region Keep ≡ records_room (region_map region) = SizesAreTheRoom-all region Keep in
    let within = kept_within region None aligned whole low in
    omega (arith, same, within)
