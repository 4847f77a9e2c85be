-- Which record counts for a key where one comes, goes or changes its state.
use Rattle.std.proofs.Common.{◌≡◌, Bool, true, false, cond, ◌&&◌, ◌||◌, List, [], ◌∷◌, ◌++◌, Option, Some, None, refl, sym, ap, subst, ◌∙◌}
use Rattle.std.proofs.lemmas.Cmp.{eq_by_cmp_equiv}
use Rattle.std.proofs.lemmas.List.Folds.{list_any-append}
use Rattle.std.proofs.lemmas.List.Sums.{fold-append}
use Rattle.std.proofs.lemmas.Map.{lookup-remove_entry}
use Rattle.std.proofs.lemmas.Map.Keys.{IsDistinct-from_sorted}
use Rattle.std.specs.BTreeMap.{insert_entry, is_at}
use Rattle.std.specs.Cmp.{Equal-is}
use Rattle.std.specs.List.{list_any}
use Rattle.std.specs.Map.{keys_of, remove_entry}
use Rattle.std.specs.Option.{option_or}
use Rattle.var_types.proofs.Chosen.{chosen-none, chosen_from-is, chosen_in_one_pass, settled_stays}
use Rattle.var_types.proofs.Entries.{lookup-insert_entry, same_entries, sorted-insert_entry}
use Rattle.var_types.proofs.Keys.{key_cmp_total, same_key}
use Rattle.var_types.proofs.Maps.{map_exact, same_map}
use Rattle.var_types.proofs.Orders.{sorted-remove_entry}
use Rattle.var_types.specs.Chosen.{chosen, chosen_after, chosen_from, is_added, is_of, is_settled, variable_of}
use Rattle.var_types.specs.declared.key.Key.{Key}
use Rattle.var_types.specs.declared.record_state.RecordState.TheVariants.{InDeletedTransition}
use Rattle.var_types.specs.Key.{key_cmp}
use Rattle.var_types.specs.Live.{Live}
use Rattle.var_types.specs.Region.{map_of}
use Rattle.var_types.specs.RecordState.{is_added_state}
use Rattle.var_region.specs.StateSteps.{AddedMayGoIntoTransition, AddedPutTheirVariable, LastTakesTheVariable, TwinsBehindWouldCount, TwinsMayGo}

-- what is found first, where it is settled
settled_first : (first other : Option Live) → is_settled first ≡ true → option_or first other ≡ first
settled_first None other h = cc
settled_first (Some live) other h = refl

-- an option behind none
or_none : (o : Option Live) → option_or o None ≡ o
or_none None = refl
or_none (Some live) = refl

module _ (key : Key) where
  -- a pass that holds no ADDED record finds what counts among the records, else what it held
  pub passed : (held : Option Live) (ls : List Live) → is_settled held ≡ false → chosen_from key held ls ≡ option_or (chosen key ls) held
  unfolding chosen
  passed held ls h = chosen_from-is key held ls h

  -- what counts among records behind others: an ADDED one of those others, else one of the records, else of the others
  pub chosen-append : (fs ls : List Live)
      → chosen key (fs ++ ls) ≡ cond (is_settled (chosen key fs)) (chosen key fs) (option_or (chosen key ls) (chosen key fs))
  chosen-append fs ls =
      sym (chosen_in_one_pass key (fs ++ ls))
      ∙ fold-append (chosen_after key) None fs ls
      ∙ ap (λ held. chosen_from key held ls) (chosen_in_one_pass key fs)
      ∙ by (is_settled (chosen key fs)) refl
    where
      by : (b : Bool) → is_settled (chosen key fs) ≡ b
          → chosen_from key (chosen key fs) ls ≡ cond b (chosen key fs) (option_or (chosen key ls) (chosen key fs))
      by true h = settled_stays key (chosen key fs) ls h
      by false h = passed (chosen key fs) ls h

  -- a record of another key doesn't count
  pub chosen-other : (live : Live) (ls : List Live) → is_of key live ≡ false → chosen key (live ∷ ls) ≡ chosen key ls
  chosen-other live ls other =
      sym (chosen_in_one_pass key (live ∷ ls))
      ∙ ap (λ b. chosen_from key (cond b (Some live) None) ls) other
      ∙ chosen_in_one_pass key ls

  -- a record of the key before others counts where it is ADDED, else where none of those does
  pub chosen-cons : (live : Live) (ls : List Live) → is_of key live ≡ true
      → chosen key (live ∷ ls) ≡ cond (is_added_state live.state) (Some live) (option_or (chosen key ls) (Some live))
  chosen-cons live ls mine =
      sym (chosen_in_one_pass key (live ∷ ls))
      ∙ ap (λ b. chosen_from key (cond b (Some live) None) ls) mine
      ∙ by (is_added_state live.state) refl
    where
      by : (b : Bool) → is_added_state live.state ≡ b
          → chosen_from key (Some live) ls ≡ cond b (Some live) (option_or (chosen key ls) (Some live))
      by true h = settled_stays key (Some live) ls h
      by false h = passed (Some live) ls h

  -- an ADDED record counts where one of the key stands
  pub settled-chosen : (ls : List Live) → is_settled (chosen key ls) ≡ list_any (is_added key) ls
  settled-chosen [] = ap is_settled (sym (chosen_in_one_pass key []))
  settled-chosen (live ∷ ls) = by (is_of key live) refl (is_added_state live.state) refl (settled-chosen ls)
    where
      or : (o : Option Live) → is_added_state live.state ≡ false → is_settled (option_or o (Some live)) ≡ is_settled o
      or None h = h
      or (Some l) h = refl

      by : (mine : Bool) → is_of key live ≡ mine → (added : Bool) → is_added_state live.state ≡ added
          → is_settled (chosen key ls) ≡ list_any (is_added key) ls
          → is_settled (chosen key (live ∷ ls)) ≡ (added && mine) || list_any (is_added key) ls
      by false m true a rest = ap is_settled (chosen-other live ls m) ∙ rest
      by false m false a rest = ap is_settled (chosen-other live ls m) ∙ rest
      by true m true a rest =
          ap is_settled (chosen-cons live ls m ∙ ap (λ b. cond b (Some live) (option_or (chosen key ls) (Some live))) a) ∙ a
      by true m false a rest =
          ap is_settled (chosen-cons live ls m ∙ ap (λ b. cond b (Some live) (option_or (chosen key ls) (Some live))) a)
          ∙ or (chosen key ls) a
          ∙ rest

-- a key that is a live record's
own_key : (key : Key) (live : Live) → is_of key live ≡ true → key ≡ live.key
own_key key live t = same_key key live.key ((Equal-is (key_cmp key live.key)).0 t)

-- a twin counts for no key
twin_silent : (key : Key) (before after : List Live) (twin : Live) → is_added_state twin.state ≡ false
    → list_any (is_added twin.key) (before ++ after) ≡ true → chosen key (before ++ after) ≡ chosen key (before ++ twin ∷ after)
twin_silent key fs bs twin state some = by (is_of key twin) refl
  where
    rest : (chosen key bs ≡ chosen key (twin ∷ bs)) → chosen key (fs ++ bs) ≡ chosen key (fs ++ twin ∷ bs)
    rest e =
        chosen-append key fs bs
        ∙ ap (λ o. cond (is_settled (chosen key fs)) (chosen key fs) (option_or o (chosen key fs))) e
        ∙ sym (chosen-append key fs (twin ∷ bs))

    any : is_of key twin ≡ true → (list_any (is_added key) fs || list_any (is_added key) bs) ≡ true
    any t = sym (list_any-append (is_added key) fs bs) ∙ ap (λ k. list_any (is_added k) (fs ++ bs)) (own_key key twin t) ∙ some

    mine : is_of key twin ≡ true → (f b : Bool) → list_any (is_added key) fs ≡ f → list_any (is_added key) bs ≡ b → (f || b) ≡ true
        → chosen key (fs ++ bs) ≡ chosen key (fs ++ twin ∷ bs)
    mine t true b p q h =
        let settled = settled-chosen key fs ∙ p in
        chosen-append key fs bs
        ∙ ap (λ s. cond s (chosen key fs) (option_or (chosen key bs) (chosen key fs))) settled
        ∙ sym (ap (λ s. cond s (chosen key fs) (option_or (chosen key (twin ∷ bs)) (chosen key fs))) settled)
        ∙ sym (chosen-append key fs (twin ∷ bs))
    mine t false true p q h =
        rest (sym (
        chosen-cons key twin bs t
        ∙ ap (λ s. cond s (Some twin) (option_or (chosen key bs) (Some twin))) state
        ∙ settled_first (chosen key bs) (Some twin) (settled-chosen key bs ∙ q)
        ))
    mine t false false p q h = cc

    by : (b : Bool) → is_of key twin ≡ b → chosen key (fs ++ bs) ≡ chosen key (fs ++ twin ∷ bs)
    by true t = mine t (list_any (is_added key) fs) (list_any (is_added key) bs) refl refl (any t)
    by false t = rest (sym (chosen-other key twin bs t))

pub TwinsMayGo-all : TwinsMayGo
TwinsMayGo-all before after twin state some =
    same_map (before ++ after) (before ++ twin ∷ after) (λ key. ap variable_of (twin_silent key before after twin state some))

-- a live record in transition
abbrev pub outdated : Live → Live
outdated live = record live { state = InDeletedTransition }

-- where no ADDED record of the key stands before it, what stands behind one that goes into transition counts, else that one
pub TwinsBehindWouldCount-all : TwinsBehindWouldCount
TwinsBehindWouldCount-all before after live none =
    let key = live.key in
    let own : is_of key live ≡ true = (eq_by_cmp_equiv key_cmp_total).refl key in
    let mine = chosen-cons key (outdated live) after own in
    chosen-append key before (outdated live ∷ after)
    ∙ ap (λ s. cond s (chosen key before) (option_or (chosen key (outdated live ∷ after)) (chosen key before))) (settled-chosen key before ∙ none)
    ∙ ap (λ o. option_or o (chosen key before)) mine
    ∙ some_or (chosen key after) (outdated live) (chosen key before)
  where
    some_or : (o : Option Live) (l : Live) (other : Option Live) → option_or (option_or o (Some l)) other ≡ option_or o (Some l)
    some_or None l other = refl
    some_or (Some x) l other = refl

-- the same variable counts for each key, where an ADDED record goes into transition
outdated_silent : (key : Key) (before after : List Live) (live : Live) → is_added_state live.state ≡ true → list_any (is_added live.key) before ≡ false
    → list_any (is_of live.key) after ≡ false
    → variable_of (chosen key (before ++ outdated live ∷ after)) ≡ variable_of (chosen key (before ++ live ∷ after))
outdated_silent key before after live state none alone = by (is_of key live) refl
  where
    mine : variable_of (chosen live.key (before ++ outdated live ∷ after)) ≡ variable_of (chosen live.key (before ++ live ∷ after))
    mine =
        let k = live.key in
        let own : is_of k live ≡ true = (eq_by_cmp_equiv key_cmp_total).refl k in
        ap variable_of (TwinsBehindWouldCount-all before after live none)
        ∙ ap (λ o. variable_of (option_or o (Some (outdated live)))) (chosen-none k after alone)
        ∙ sym (ap variable_of (
        chosen-append k before (live ∷ after)
        ∙ ap (λ s. cond s (chosen k before) (option_or (chosen k (live ∷ after)) (chosen k before))) (settled-chosen k before ∙ none)
        ∙ ap (λ o. option_or o (chosen k before)) (chosen-cons k live after own ∙ ap (λ s. cond s (Some live) (option_or (chosen k after) (Some live))) state)
        ))

    by : (b : Bool) → is_of key live ≡ b
        → variable_of (chosen key (before ++ outdated live ∷ after)) ≡ variable_of (chosen key (before ++ live ∷ after))
    by true t =
        subst (λ k. variable_of (chosen k (before ++ outdated live ∷ after)) ≡ variable_of (chosen k (before ++ live ∷ after)))
        (sym (own_key key live t)) mine
    by false t =
        ap variable_of (
        chosen-append key before (outdated live ∷ after)
        ∙ ap (λ o. cond (is_settled (chosen key before)) (chosen key before) (option_or o (chosen key before)))
        (chosen-other key (outdated live) after t ∙ sym (chosen-other key live after t))
        ∙ sym (chosen-append key before (live ∷ after))
        )

pub AddedMayGoIntoTransition-all : AddedMayGoIntoTransition
AddedMayGoIntoTransition-all before after live state none alone =
    same_map (before ++ outdated live ∷ after) (before ++ live ∷ after) (λ key. outdated_silent key before after live state none alone)

-- what counts for a key, where one more record is ADDED
added_counts : (key : Key) (ls : List Live) (live : Live) → is_added_state live.state ≡ true → list_any (is_added live.key) ls ≡ false
    → chosen key (ls ++ live ∷ []) ≡ cond (is_of key live) (Some live) (chosen key ls)
added_counts key ls live state none = chosen-append key ls (live ∷ []) ∙ by (is_of key live) refl
  where
    either : (s : Bool) (o : Option Live) → cond s o o ≡ o
    either true o = refl
    either false o = refl

    by : (b : Bool) → is_of key live ≡ b
        → cond (is_settled (chosen key ls)) (chosen key ls) (option_or (chosen key (live ∷ [])) (chosen key ls)) ≡ cond b (Some live) (chosen key ls)
    by true t =
        ap (λ s. cond s (chosen key ls) (option_or (chosen key (live ∷ [])) (chosen key ls)))
        (settled-chosen key ls ∙ ap (λ k. list_any (is_added k) ls) (own_key key live t) ∙ none)
        ∙ ap (λ o. option_or o (chosen key ls)) (chosen-cons key live [] t ∙ ap (λ s. cond s (Some live) (option_or (chosen key []) (Some live))) state)
    by false t =
        ap (λ o. cond (is_settled (chosen key ls)) (chosen key ls) (option_or o (chosen key ls))) (chosen-other key live [] t ∙ chosen-none key [] refl)
        ∙ either (is_settled (chosen key ls)) (chosen key ls)

pub AddedPutTheirVariable-all : AddedPutTheirVariable
AddedPutTheirVariable-all ls live state none =
    let p = map_exact (ls ++ live ∷ []) in
    let q = map_exact ls in
    same_entries key_cmp_total same_key (map_of (ls ++ live ∷ [])) (insert_entry key_cmp (map_of ls) live.key live.variable) p.ordered
    (sorted-insert_entry key_cmp_total live.key live.variable (map_of ls) q.ordered)
    (λ key.
    p.holds key
    ∙ ap variable_of (added_counts key ls live state none)
    ∙ by key (is_of key live)
    ∙ ap (cond (is_of key live) (Some live.variable)) (sym (q.holds key))
    ∙ sym (lookup-insert_entry key_cmp_total live.key live.variable (map_of ls) key))
  where
    by : (key : Key) (b : Bool) → variable_of (cond b (Some live) (chosen key ls)) ≡ cond b (Some live.variable) (variable_of (chosen key ls))
    by key true = refl
    by key false = refl

-- without a key's last record another key has what it had, and that key nothing
last_counts : (key : Key) (before after : List Live) (live : Live) → list_any (is_of live.key) (before ++ after) ≡ false
    → variable_of (chosen key (before ++ after)) ≡ cond (is_at (key_cmp live.key) key) None (variable_of (chosen key (before ++ live ∷ after)))
last_counts key before after live none = by (is_at (key_cmp live.key) key) refl
  where
    symm : is_of key live ≡ is_at (key_cmp live.key) key
    symm = (eq_by_cmp_equiv key_cmp_total).symm key live.key

    by : (b : Bool) → is_at (key_cmp live.key) key ≡ b
        → variable_of (chosen key (before ++ after)) ≡ cond b None (variable_of (chosen key (before ++ live ∷ after)))
    by true t =
        ap variable_of (
        chosen-none key (before ++ after) (ap (λ k. list_any (is_of k) (before ++ after)) (own_key key live (symm ∙ t)) ∙ none)
        )
    by false t =
        ap variable_of (
        chosen-append key before after
        ∙ ap (λ o. cond (is_settled (chosen key before)) (chosen key before) (option_or o (chosen key before))) (sym (chosen-other key live after (symm ∙ t)))
        ∙ sym (chosen-append key before (live ∷ after))
        )

pub LastTakesTheVariable-all : LastTakesTheVariable
LastTakesTheVariable-all before after live none =
    let ls = before ++ live ∷ after in
    let p = map_exact (before ++ after) in
    let q = map_exact ls in
    let test = is_at (key_cmp live.key) in
    let laws = eq_by_cmp_equiv key_cmp_total in
    same_entries key_cmp_total same_key (map_of (before ++ after)) (remove_entry test (map_of ls)) p.ordered
    (sorted-remove_entry key_cmp test (map_of ls) q.ordered)
    (λ key.
    p.holds key
    ∙ last_counts key before after live none
    ∙ ap (cond (test key) None) (sym (q.holds key))
    ∙ sym (lookup-remove_entry laws test (λ x y t. laws.congr live.key x y t) key (map_of ls) (IsDistinct-from_sorted key_cmp (keys_of (map_of ls)) q.ordered)))
