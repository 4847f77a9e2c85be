-- The least key above a bound: found among live records in one pass, it is the first such key of their map, and the entry that callers see next
-- is that key's, or stands above it.
use Rattle.std.proofs.Common.{◌≡◌, suc, Bool, true, false, cond, ◌||◌, ℕ, ◌<◌, List, [], ◌∷◌, find, option_map, Option, Some, None, is_some, is_eq, is_lt, Ordering, Less, Equal, Greater, refl, sym, ap, subst, ◌∙◌, true≢false, arith}
use Rattle.std.proofs.lemmas.Bool.{or_right}
use Rattle.std.proofs.lemmas.Cmp.{tied_itself}
use Rattle.std.specs.List.{list_any}
use Rattle.std.specs.Option.{option_or}
use Rattle.var_types.proofs.Chosen.{chosen_in_one_pass, chosen_key, one_found}
use Rattle.var_types.proofs.FirstKeys.{HoldsUpward, first_key, first_key-insert_entry, lookup_found}
use Rattle.var_types.proofs.FirstShown.{first_shown, first_shown-is, from_entry}
use Rattle.var_types.proofs.Keys.{key_cmp_total, same_key}
use Rattle.var_types.proofs.Lowest.{lower_assoc}
use Rattle.var_types.proofs.Maps.{map_exact}
use Rattle.var_types.proofs.Passing.{count_passing, fewer_above}
use Rattle.var_types.specs.Chosen.{chosen, is_of, variable_of}
use Rattle.var_types.specs.declared.key.Key.{Key}
use Rattle.var_types.specs.declared.variable.Variable.{Variable}
use Rattle.var_types.specs.Key.{key_cmp}
use Rattle.var_types.specs.Least.{is_shown, least_from, lower, shown}
use Rattle.var_types.specs.Live.{Live, live_entry}
use Rattle.var_types.specs.Next.{is_above}
use Rattle.var_types.specs.Region.{entries_in, map_of, with_variable}

-- a key above another above a bound is above the bound
pub above_upward : (bound : Option Key) → HoldsUpward key_cmp (is_above bound)
above_upward None x y t h = refl
above_upward (Some k) x y t h = by (key_cmp k x) refl t
  where
    by : (r : Ordering) → key_cmp k x ≡ r → is_lt r ≡ true → is_lt (key_cmp k y) ≡ true
    by Less e u = ap is_lt (key_cmp_total.trans k x y e h)
    by Equal e u = absurd (true≢false (sym u))
    by Greater e u = absurd (true≢false (sym u))

-- the least key from one held is the lower of that and the least
least_from-held : (bound held : Option Key) (ls : List Live) → least_from bound held ls ≡ lower key_cmp held (least_from bound None ls)
least_from-held bound held [] = by held
  where
    by : (held : Option Key) → held ≡ lower key_cmp held None
    by None = refl
    by (Some key) = refl
least_from-held bound held (live ∷ ls) = by (is_above bound live.key) (λ next. least_from-held bound next ls)
  where
    by : (b : Bool) → ((next : Option Key) → least_from bound next ls ≡ lower key_cmp next (least_from bound None ls))
        → least_from bound (cond b (lower key_cmp held (Some live.key)) held) ls
        ≡ lower key_cmp held (least_from bound (cond b (Some live.key) None) ls)
    by true rest =
        rest (lower key_cmp held (Some live.key))
        ∙ lower_assoc key_cmp_total held (Some live.key) (least_from bound None ls)
        ∙ ap (lower key_cmp held) (sym (rest (Some live.key)))
    by false rest = rest held

-- live records of which each key is that of one among all
abbrev AreAmong : List Live → List Live → Type 0
AreAmong all [] = Unit {0}
AreAmong all (live ∷ ls) = (list_any (is_of live.key) all ≡ true) × AreAmong all ls

among_more : (one : Live) (all ls : List Live) → AreAmong all ls → AreAmong (one ∷ all) ls
among_more one all [] a = tt
among_more one all (live ∷ ls) a = (or_right (is_of live.key one) (list_any (is_of live.key) all) a.0, among_more one all ls a.1)

among_all : (ls : List Live) → AreAmong ls ls
among_all [] = tt
among_all (live ∷ ls) =
    (ap (λ b. b || list_any (is_of live.key) ls) (ap is_eq (tied_itself key_cmp_total live.key)), among_more live ls ls (among_all ls))

-- the least key above a bound is the first such of the map
least_from-entries : (bound : Option Key) (all ls : List Live) → AreAmong all ls
    → least_from bound None ls ≡ first_key (is_above bound) (entries_in all ls)
least_from-entries bound all [] a = refl
least_from-entries bound all (live ∷ ls) a =
    least_from-held bound (cond (is_above bound live.key) (Some live.key) None) ls
    ∙ ap (lower key_cmp (cond (is_above bound live.key) (Some live.key) None)) (least_from-entries bound all ls a.1)
    ∙ by (chosen live.key all) refl
  where
    grouped : (b : Bool) (rest : Option Key) → lower key_cmp (cond b (Some live.key) None) rest ≡ cond b (lower key_cmp (Some live.key) rest) rest
    grouped true rest = refl
    grouped false rest = refl

    by : (found : Option Live) → chosen live.key all ≡ found
        → lower key_cmp (cond (is_above bound live.key) (Some live.key) None) (first_key (is_above bound) (entries_in all ls))
        ≡ first_key (is_above bound) (with_variable live.key found (entries_in all ls))
    by None e = absurd (true≢false (sym (one_found live.key None all a.0) ∙ ap is_some (chosen_in_one_pass live.key all ∙ e)))
    by (Some l) e =
        grouped (is_above bound live.key) (first_key (is_above bound) (entries_in all ls))
        ∙ sym (first_key-insert_entry key_cmp_total same_key (is_above bound) (above_upward bound) live.key l.variable (entries_in all ls))

-- the least key above a bound is the first such of the map
pub least_from-none : (bound : Option Key) (ls : List Live) → least_from bound None ls ≡ first_key (is_above bound) (map_of ls)
unfolding map_of
least_from-none bound ls = least_from-entries bound ls ls (among_all ls)

-- the entry of the least key above a bound that callers see, in the map of live records
abbrev pub shown_above : List Live → Bool → Option Key → Option (Key × Variable)
shown_above ls runtime bound = first_shown (λ entry. is_shown runtime entry.1) (is_above bound) (map_of ls)

-- what comes of a least key: the entry of its record, where callers see it, or what comes behind it
abbrev pub shown_from : List Live → Bool → Option Key → Option (Key × Variable)
shown_from ls runtime None = None
shown_from ls runtime (Some key) = option_or (option_map live_entry (shown runtime (chosen key ls))) (shown_above ls runtime (Some key))

-- an entry is shown where the record that counts for its key is
entry_shown : (ls : List Live) (runtime : Bool) (entry : Key × Variable) (later : Option (Key × Variable)) (found : Option Live) → chosen entry.0 ls ≡ found
    → variable_of found ≡ Some entry.1
    → cond (is_shown runtime entry.1) (Some entry) later ≡ option_or (option_map live_entry (shown runtime found)) later
entry_shown ls runtime entry later None is h = cc
entry_shown ls runtime entry later (Some live) is h =
    let key : live.key ≡ entry.0 = chosen_key entry.0 ls live is in
    let variable : live.variable ≡ entry.1 = cc in
    let same : cond (is_shown runtime live.variable) (Some (live_entry live)) later ≡ cond (is_shown runtime entry.1) (Some entry) later =
    λ i. cond (is_shown runtime (variable i)) (Some (key i, variable i)) later in
    sym same ∙ by (is_shown runtime live.variable)
  where
    by : (b : Bool) → cond b (Some (live_entry live)) later ≡ option_or (option_map live_entry (cond b (Some live) None)) later
    by true = refl
    by false = refl

-- the entry that callers see next comes of the least key
pub shown_above-least : (ls : List Live) (runtime : Bool) (bound : Option Key)
    → shown_above ls runtime bound ≡ shown_from ls runtime (least_from bound None ls)
shown_above-least ls runtime bound =
    first_shown-is key_cmp_total (λ entry. is_shown runtime entry.1) (is_above bound) (above_upward bound) (map_of ls) (map_exact ls).ordered
    ∙ by (find (λ (e : Key × Variable). is_above bound e.0) (map_of ls)) refl
    ∙ ap (shown_from ls runtime) (sym (least_from-none bound ls))
  where
    by : (found : Option (Key × Variable)) → find (λ (e : Key × Variable). is_above bound e.0) (map_of ls) ≡ found
        → from_entry key_cmp_total (λ entry. is_shown runtime entry.1) (map_of ls) found
        ≡ shown_from ls runtime (option_map (λ (e : Key × Variable). e.0) found)
    by None h = refl
    by (Some e) h =
        entry_shown ls runtime e (shown_above ls runtime (Some e.0)) (chosen e.0 ls) refl
        (sym ((map_exact ls).holds e.0) ∙ lookup_found key_cmp_total same_key (is_above bound) (map_of ls) e h)

-- a record that is shown for a key counts for its own
pub shown_key : (ls : List Live) (runtime : Bool) (key : Key) (live : Live) → Some live ≡ shown runtime (chosen key ls) → chosen live.key ls ≡ Some live
shown_key ls runtime key live h = by (chosen key ls) refl h
  where
    by : (found : Option Live) → chosen key ls ≡ found → Some live ≡ shown runtime found → chosen live.key ls ≡ Some live
    by None is h = cc
    by (Some l) is h = if_shown (is_shown runtime l.variable) h
      where
        if_shown : (b : Bool) → Some live ≡ cond b (Some l) None → chosen live.key ls ≡ Some live
        if_shown true h = ap (λ k. chosen k ls) (ap (λ (o : Live). o.key) (let same : live ≡ l = cc in same) ∙ chosen_key key ls l is) ∙ is ∙ sym h
        if_shown false h = cc

-- how many keys of the map stand above a bound
abbrev pub keys_above : List Live → Option Key → ℕ
keys_above ls bound = count_passing (is_above bound) (map_of ls)

-- fewer keys stand above the least one than above the bound
pub fewer_above_least : (ls : List Live) (bound : Option Key) (key : Key) → least_from bound None ls ≡ Some key
    → keys_above ls (Some key) < keys_above ls bound
fewer_above_least ls bound key h = by (find (λ (e : Key × Variable). is_above bound e.0) (map_of ls)) refl (sym (least_from-none bound ls) ∙ h)
  where
    by : (found : Option (Key × Variable)) → find (λ (e : Key × Variable). is_above bound e.0) (map_of ls) ≡ found
        → option_map (λ (e : Key × Variable). e.0) found ≡ Some key → keys_above ls (Some key) < keys_above ls bound
    by None g e = cc
    by (Some entry) g e =
        let same : entry.0 ≡ key = cc in
        subst (λ k. keys_above ls (Some k) < keys_above ls bound) same
        (fewer_above key_cmp_total (is_above bound) (above_upward bound) (map_of ls) entry g)

-- how many keys are left to be shown, from a least one on
abbrev pub keys_left : List Live → Option Key → ℕ
keys_left ls None = 0
keys_left ls (Some key) = suc (keys_above ls (Some key))

-- fewer keys are left from the least above a key than from that key
pub fewer_left : (ls : List Live) (key : Key) (next : Option Key) → next ≡ least_from (Some key) None ls → keys_left ls next < keys_left ls (Some key)
fewer_left ls key None e = omega arith
fewer_left ls key (Some next) e = omega (arith, fewer_above_least ls (Some key) next (sym e))
