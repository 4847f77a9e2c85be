-- The record that counts for a key, found in one pass that holds the one that counts so far.
use Rattle.std.proofs.Common.{◌≡◌, Bool, true, false, cond, not, ◌&&◌, ◌||◌, List, [], ◌∷◌, reverse, find, Option, Some, None, is_some, refl, sym, ap, subst, ◌∙◌}
use mathlib.Core.List.{reverse-cons}
use Rattle.std.proofs.lemmas.List.Folds.{find-append}
use Rattle.std.specs.Cmp.{Equal-is}
use Rattle.std.specs.List.{AllByRecursion, list_any}
use Rattle.std.specs.Option.{option_or}
use Rattle.var_types.proofs.Keys.{same_key}
use Rattle.var_types.specs.Chosen.{chosen, chosen_from, counting, is_added, is_in_transition, is_of, is_settled}
use Rattle.var_types.specs.declared.key.Key.{Key}
use Rattle.var_types.specs.Key.{key_cmp}
use Rattle.var_types.specs.Live.{Live}
use Rattle.var_types.specs.RecordState.{is_added_state}

-- an ADDED record that is held counts, whatever follows
pub settled_stays : (key : Key) (held : Option Live) (ls : List Live) → is_settled held ≡ true → chosen_from key held ls ≡ held
settled_stays key held [] h = refl
settled_stays key None (live ∷ ls) h = cc
settled_stays key (Some l) (live ∷ ls) h = ap (λ next. chosen_from key next ls) (by (is_of key live)) ∙ settled_stays key (Some l) ls h
  where
    by : (mine : Bool) → cond mine (Some (cond (is_added_state l.state) l live)) (Some l) ≡ Some l
    by true = ap (λ t. Some (cond t l live)) h
    by false = refl

-- where no ADDED record is held, a later one counts
counting_later : (held : Option Live) (later : Live) → is_settled held ≡ false → counting held later ≡ later
counting_later None later h = refl
counting_later (Some l) later h = ap (λ t. cond t l later) h

-- what a pass from no ADDED record finds is the first ADDED record of the key, else its last in transition, else what was held
pub chosen_from-is : (key : Key) (held : Option Live) (ls : List Live) → is_settled held ≡ false
    → chosen_from key held ls ≡ option_or (option_or (find (is_added key) ls) (find (is_in_transition key) (reverse ls))) held
chosen_from-is key held [] h = refl
chosen_from-is key held (live ∷ ls) h =
    by (is_added_state live.state) refl (is_of key live) (λ next e. chosen_from-is key next ls e)
    ∙ ap (λ o. option_or (option_or (find (is_added key) (live ∷ ls)) o) held) (sym last)
  where
    last : find (is_in_transition key) (reverse (live ∷ ls)) ≡ option_or (find (is_in_transition key) (reverse ls)) (find (is_in_transition key) (live ∷ []))
    last = ap (find (is_in_transition key)) (reverse-cons live ls) ∙ find-append (is_in_transition key) (reverse ls) (live ∷ [])

    taken : chosen_from key (Some (counting held live)) ls ≡ chosen_from key (Some live) ls
    taken = ap (λ next. chosen_from key (Some next) ls) (counting_later held live h)

    later : (first other : Option Live) → option_or (option_or first other) (Some live) ≡ option_or (option_or first (option_or other (Some live))) held
    later None None = refl
    later None (Some o) = refl
    later (Some f) other = refl

    same : (first other : Option Live) → option_or (option_or first other) held ≡ option_or (option_or first (option_or other None)) held
    same None None = refl
    same None (Some o) = refl
    same (Some f) other = refl

    by : (added : Bool) → is_added_state live.state ≡ added → (mine : Bool)
        → ((next : Option Live) → is_settled next ≡ false
        → chosen_from key next ls ≡ option_or (option_or (find (is_added key) ls) (find (is_in_transition key) (reverse ls))) next)
        → chosen_from key (cond mine (Some (counting held live)) held) ls
        ≡ option_or
        (option_or (cond (added && mine) (Some live) (find (is_added key) ls))
        (option_or (find (is_in_transition key) (reverse ls)) (cond (not added && mine) (Some live) None))) held
    by true e true rest = taken ∙ settled_stays key (Some live) ls e
    by true e false rest = rest held h ∙ same (find (is_added key) ls) (find (is_in_transition key) (reverse ls))
    by false e true rest =
        taken
        ∙ rest (Some live) e
        ∙ later (find (is_added key) ls) (find (is_in_transition key) (reverse ls))
    by false e false rest = rest held h ∙ same (find (is_added key) ls) (find (is_in_transition key) (reverse ls))

-- one pass from nothing finds the record that counts
pub chosen_in_one_pass : (key : Key) (ls : List Live) → chosen_from key None ls ≡ chosen key ls
unfolding chosen
chosen_in_one_pass key ls =
    chosen_from-is key None ls refl ∙ or_none (option_or (find (is_added key) ls) (find (is_in_transition key) (reverse ls)))
  where
    or_none : (o : Option Live) → option_or o None ≡ o
    or_none None = refl
    or_none (Some live) = refl

-- a pass over records of other keys finds what it held
pub chosen_from_others : (key : Key) (held : Option Live) (ls : List Live) → list_any (is_of key) ls ≡ false → chosen_from key held ls ≡ held
chosen_from_others key held [] h = refl
chosen_from_others key held (live ∷ ls) h = by (is_of key live) h (chosen_from_others key held ls)
  where
    by : (mine : Bool) → (mine || list_any (is_of key) ls) ≡ false → (list_any (is_of key) ls ≡ false → chosen_from key held ls ≡ held)
        → chosen_from key (cond mine (Some (counting held live)) held) ls ≡ held
    by true h later = cc
    by false h later = later h

-- no record counts for a key that none has
pub chosen-none : (key : Key) (ls : List Live) → list_any (is_of key) ls ≡ false → chosen key ls ≡ None
chosen-none key ls h = sym (chosen_in_one_pass key ls) ∙ chosen_from_others key None ls h

-- a pass that holds a record finds one
held_stays : (key : Key) (held : Live) (ls : List Live) → is_some (chosen_from key (Some held) ls) ≡ true
held_stays key held [] = refl
held_stays key held (live ∷ ls) = by (is_of key live) (λ next. held_stays key next ls)
  where
    by : (mine : Bool) → ((next : Live) → is_some (chosen_from key (Some next) ls) ≡ true)
        → is_some (chosen_from key (cond mine (Some (counting (Some held) live)) (Some held)) ls) ≡ true
    by true rest = rest (counting (Some held) live)
    by false rest = rest held

-- a pass over records of which one is the key's finds one
pub one_found : (key : Key) (held : Option Live) (ls : List Live) → list_any (is_of key) ls ≡ true → is_some (chosen_from key held ls) ≡ true
one_found key held [] h = cc
one_found key held (live ∷ ls) h = by (is_of key live) h (one_found key held ls)
  where
    by : (mine : Bool) → (mine || list_any (is_of key) ls) ≡ true → (list_any (is_of key) ls ≡ true → is_some (chosen_from key held ls) ≡ true)
        → is_some (chosen_from key (cond mine (Some (counting held live)) held) ls) ≡ true
    by true h rest = held_stays key (counting held live) ls
    by false h rest = rest h

-- what holds of a record that is held and of each later one holds of the one that counts so far
counting_either : (P : Live → Type 0) (held : Option Live) (later : Live) → ((l : Live) → held ≡ Some l → P l) → P later → P (counting held later)
counting_either P None later f h = h
counting_either P (Some l) later f h = by (is_added_state l.state)
  where
    by : (b : Bool) → P (cond b l later)
    by true = f l refl
    by false = h

-- what holds of what is held, and of each record of the key, holds of what a pass finds
chosen_from-all : (P : Live → Type 0) (key : Key) (held : Option Live) (ls : List Live) → ((l : Live) → held ≡ Some l → P l)
    → AllByRecursion (λ live. is_of key live ≡ true → P live) ls → (live : Live) → chosen_from key held ls ≡ Some live → P live
chosen_from-all P key held [] f all live g = f live g
chosen_from-all P key held (one ∷ ls) f all live g = by (is_of key one) refl g (λ next h. chosen_from-all P key next ls h all.1 live)
  where
    by : (mine : Bool) → is_of key one ≡ mine → chosen_from key (cond mine (Some (counting held one)) held) ls ≡ Some live
        → ((next : Option Live) → ((l : Live) → next ≡ Some l → P l) → chosen_from key next ls ≡ Some live → P live) → P live
    by true t g rest =
        rest (Some (counting held one)) (λ l e. let same : counting held one ≡ l = cc in subst P same (counting_either P held one f (all.0 t))) g
    by false t g rest = rest held f g

-- what holds of each live record of a key holds of the one that counts
chosen-mine : (P : Live → Type 0) (key : Key) (ls : List Live) → AllByRecursion (λ live. is_of key live ≡ true → P live) ls → (live : Live)
    → chosen key ls ≡ Some live → P live
chosen-mine P key ls all live h = chosen_from-all P key None ls (λ l g. cc) all live (chosen_in_one_pass key ls ∙ h)

-- what holds of each live record holds of the one that counts for a key
pub chosen-all : (P : Live → Type 0) (key : Key) (ls : List Live) → AllByRecursion P ls → (live : Live) → chosen key ls ≡ Some live → P live
chosen-all P key ls all live h = chosen-mine P key ls (mine ls all) live h
  where
    mine : (ls : List Live) → AllByRecursion P ls → AllByRecursion (λ live. is_of key live ≡ true → P live) ls
    mine [] all = tt
    mine (l ∷ ls) all = (λ t. all.0, mine ls all.1)

-- the record that counts for a key is of that key
pub chosen_key : (key : Key) (ls : List Live) (live : Live) → chosen key ls ≡ Some live → live.key ≡ key
chosen_key key ls live h = chosen-mine (λ live. live.key ≡ key) key ls (own ls) live h
  where
    own : (ls : List Live) → AllByRecursion (λ live. is_of key live ≡ true → live.key ≡ key) ls
    own [] = tt
    own (one ∷ ls) = (λ t. sym (same_key key one.key ((Equal-is (key_cmp key one.key)).0 t)), own ls)
