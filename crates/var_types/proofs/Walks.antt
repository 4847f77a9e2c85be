-- A walk from an empty name answers each visible key once, in key order, and no other.
use Rattle.std.proofs.Common.{◌≡◌, ◌≤◌, Bool, true, false, cond, List, [], ◌∷◌, ◌++◌, length, refl, subst, sym, ap, ◌∙◌, append_assoc, arith}
use Rattle.std.proofs.lemmas.Bool.{le-ltb, ltb-false}
use Rattle.std.proofs.lemmas.Cmp.{eq_by_cmp_equiv}
use Rattle.std.proofs.lemmas.List.Elements.{recursion_from_All}
use Rattle.std.proofs.lemmas.Map.Entries.{lookup-filter-values, option_filter}
use Rattle.std.proofs.lemmas.Map.Keys.{IsDistinct-from_sorted}
use Rattle.std.specs.BTreeMap.{is_at}
use Rattle.std.specs.List.{AllByRecursion, filter, find}
use Rattle.std.specs.List.Sorted.{IsStrictlySortedBy}
use Rattle.std.specs.Map.{keys_of, lookup}
use Rattle.std.specs.Option.{option_map}
use Rattle.std.specs.Prelude.{ℕ, ◌&&◌, if◌then◌else◌, is_some, nat_lt, Option, Some, None, Result, Ok, Err}
use Rattle.var_types.proofs.Keys.{key_cmp_total}
use Rattle.var_types.proofs.Orders.{all_behind, all_filter, all_seam, find-behind, first_of, lookup-seam, sorted-filter}
use Rattle.var_types.specs.Key.{key_cmp, key_of}
use Rattle.var_types.specs.Next.{is_above, is_seen, name_size, next_above, next_behind, next_found, next_named, next_reply}
use Rattle.var_types.specs.State.{State, seen_at, stored_at, visible_at}
use Rattle.var_types.specs.Walk.{IsSound, IsWellFormed, Walks, visible_keys}
use Rattle.var_types.specs.declared.call.NextCall.{NextCall}
use Rattle.var_types.specs.declared.guid.Guid.{Guid}
use Rattle.var_types.specs.declared.key.Key.{Key}
use Rattle.var_types.specs.declared.name.NameFault.{NameFault}
use Rattle.var_types.specs.declared.reply.NextReply.{NextReply}
use Rattle.var_types.specs.declared.reply.NextReply.TheVariants.{End, TooSmall, Ok as Found}
use Rattle.var_types.specs.declared.variable.Variable.{Variable}

-- the answer where these entries are left: the first one's key, or the end
abbrev reply_of : List (Key × Variable) → NextReply
reply_of [] = End
reply_of (e ∷ es) = Found e.0

-- a check that finds no fault found that none of its tests held
second_passed : (a b : Bool) (x y : NameFault) (rest : Result (Unit {0}) NameFault)
    → (if a then Err x else if b then Err y else rest) ≡ Ok tt → b ≡ false
second_passed true b x y rest h = cc
second_passed false true x y rest h = cc
second_passed false false x y rest h = refl

-- a well-formed name has at most 512 units
pub length-well_formed : (name : List ℕ) → IsWellFormed name → length name ≤ 512
length-well_formed name well = ltb-false 512 (length name) (second_passed _ (nat_lt 512 (length name)) _ _ _ well)

-- a well-formed name fits where there is room for the longest
fits : (key : Key) (room : ℕ) → IsWellFormed key.name → 1026 ≤ room → next_found (Some key) room ≡ Found key
fits key room well wide =
    let long : name_size key.name ≤ room = omega (arith, length-well_formed key.name well) in
    ap (λ test. if test then TooSmall (name_size key.name) else Found key) (le-ltb room (name_size key.name) long)

-- the answer from the first of these entries, where there is room for the longest name
next_found-first : (es : List (Key × Variable)) (room : ℕ) → AllByRecursion (λ key. IsWellFormed key.name) (keys_of es) → 1026 ≤ room
    → next_found (option_map (λ e. e.0) (first_of es)) room ≡ reply_of es
next_found-first [] room well wide = refl
next_found-first (e ∷ es) room well wide = fits e.0 room well.0 wide

-- one entry more, which may pass both tests
both_case : {X : Type 0} (q : X → Bool) (x : X) (found : Option X) (rest : List X) (b : Bool) → found ≡ find q rest
    → cond (b && q x) (Some x) found ≡ find q (cond b (x ∷ rest) rest)
both_case q x found rest true h = ap (cond (q x) (Some x)) h
both_case q x found rest false h = h

-- a search by two tests is a search by the second among what passes the first
find-both : {X : Type 0} (p q : X → Bool) (xs : List X) → find (λ x. p x && q x) xs ≡ find q (filter p xs)
find-both p q [] = refl
find-both p q (x ∷ xs) = both_case q x (find (λ x. p x && q x) xs) (filter p xs) (p x) (find-both p q xs)

-- a search that takes anything finds the first
find-any : {X : Type 0} (xs : List X) → find (λ x. true) xs ≡ first_of xs
find-any [] = refl
find-any (x ∷ xs) = refl

-- what a choice kept, it chose
kept_by : {X : Type 0} (b : Bool) (x v : X) → cond b (Some x) None ≡ Some v → b ≡ true
kept_by true x v h = refl
kept_by false x v h = cc

-- what is found among the visible variables is visible
seen_found : (runtime : Bool) (found : Option Variable) (v : Variable) → option_filter (λ v. is_some (seen_at runtime (Some v))) found ≡ Some v
    → is_some (seen_at runtime found) ≡ true
seen_found runtime None v h = cc
seen_found runtime (Some x) v h = kept_by (is_some (seen_at runtime (Some x))) x v h

-- the answer behind a visible key
next_behind-seen : (state : State) (call : NextCall) (found : Option Variable) → is_some found ≡ true
    → next_behind state call found ≡ next_found (next_above state (Some (key_of call.guid call.name))) call.room
next_behind-seen state call None h = cc
next_behind-seen state call (Some v) h = refl

module _ (state : State) (sound : IsSound state) where
  -- the entries that callers see
  abbrev seen : List (Key × Variable)
  seen = filter (is_seen state) state.variables

  -- they stand in key order
  seen_ordered : IsStrictlySortedBy key_cmp (keys_of seen)
  seen_ordered = sorted-filter key_cmp (is_seen state) state.variables sound.ordered

  -- their names are well-formed
  seen_named : AllByRecursion (λ key. IsWellFormed key.name) (keys_of seen)
  seen_named =
      all_filter (λ key. IsWellFormed key.name) (is_seen state) state.variables
      (recursion_from_All (λ key. IsWellFormed key.name) (keys_of state.variables) sound.named)

  -- the first key that callers see
  next_above-first : next_above state None ≡ option_map (λ e. e.0) (first_of seen)
  unfolding next_above
  next_above-first = ap (option_map (λ e. e.0)) (find-both (is_seen state) (λ e. true) state.variables ∙ find-any seen)

  module _ (pre : List (Key × Variable)) (e : Key × Variable) (rest : List (Key × Variable)) (split : seen ≡ pre ++ e ∷ rest) where
    -- what is split stands in key order
    split_ordered : IsStrictlySortedBy key_cmp (keys_of (pre ++ e ∷ rest))
    split_ordered = subst (λ (es : List (Key × Variable)). IsStrictlySortedBy key_cmp (keys_of es)) split seen_ordered

    -- what is split has well-formed names
    split_named : AllByRecursion (λ key. IsWellFormed key.name) (keys_of (pre ++ e ∷ rest))
    split_named = subst (λ (es : List (Key × Variable)). AllByRecursion (λ key. IsWellFormed key.name) (keys_of es)) split seen_named

    -- the next key is that of the entry behind
    next_above-behind : next_above state (Some e.0) ≡ option_map (λ e. e.0) (first_of rest)
    unfolding next_above
    next_above-behind =
        ap (option_map (λ e. e.0))
        (find-both (is_seen state) (λ x. is_above (Some e.0) x.0) state.variables
        ∙ ap (find (λ x. is_above (Some e.0) x.0)) split
        ∙ find-behind key_cmp_total pre e rest split_ordered)

    -- callers see the key
    key_seen : is_some (visible_at state e.0) ≡ true
    key_seen =
        let sees : Variable → Bool = λ v. is_some (seen_at state.runtime (Some v)) in
        seen_found state.runtime (stored_at state e.0) e.1
        (sym (lookup-filter-values (eq_by_cmp_equiv key_cmp_total) sees e.0 state.variables (IsDistinct-from_sorted key_cmp (keys_of state.variables) sound.ordered))
        ∙ ap (lookup (is_at (key_cmp e.0))) split
        ∙ lookup-seam key_cmp_total pre e rest split_ordered)

    -- the answer behind the key is the entry behind
    next_reply-behind : (room : ℕ) → 1026 ≤ room → next_reply state (record { guid = e.0.guid; name = e.0.name; room = room }) ≡ reply_of rest
    unfolding next_reply next_named
    next_reply-behind room wide =
        let call : NextCall = record { guid = e.0.guid; name = e.0.name; room = room } in
        let well : IsWellFormed e.0.name = all_seam (λ key. IsWellFormed key.name) pre e rest split_named in
        let after = all_behind (λ key. IsWellFormed key.name) pre (e ∷ rest) split_named in
        ap (next_named state call) well ∙ next_behind-seen state call (visible_at state e.0) key_seen
        ∙ ap (λ above. next_found above room) next_above-behind
        ∙ next_found-first rest room after.1 wide

  module _ (room : ℕ) (wide : 1026 ≤ room) where
    -- a call that answers the end goes on to no key
    walks_end : (guid : Guid) (name : List ℕ) → next_reply state (record { guid = guid; name = name; room = room }) ≡ End
        → (keys : List Key) → Walks state room guid name keys → keys ≡ []
    walks_end guid name at [] walks = refl
    walks_end guid name at (key ∷ keys) walks = let e : End ≡ Found key = sym at ∙ walks.0 in cc

    -- a call that answers a key goes on with it
    walks_on : (guid : Guid) (name : List ℕ) (key : Key) (rest : List Key) → next_reply state (record { guid = guid; name = name; room = room }) ≡ Found key
        → ((keys : List Key) → Walks state room key.guid key.name keys → keys ≡ rest)
        → (keys : List Key) → Walks state room guid name keys → keys ≡ key ∷ rest
    walks_on guid name key rest at go [] walks = let e : End ≡ Found key = sym walks ∙ at in cc
    walks_on guid name key rest at go (k ∷ keys) walks =
        let e : Found k ≡ Found key = sym walks.0 ∙ at in
        let same : k ≡ key = cc in
        let after : keys ≡ rest = go keys (subst (λ (k : Key). Walks state room k.guid k.name keys) same walks.1) in
        ap (λ k. k ∷ keys) same ∙ ap (λ keys. key ∷ keys) after

    -- a walk from a call that answers the first of the entries that are left answers these, and no other
    walk_from : (pre rest : List (Key × Variable)) → seen ≡ pre ++ rest → (guid : Guid) (name : List ℕ)
        → next_reply state (record { guid = guid; name = name; room = room }) ≡ reply_of rest
        → Walks state room guid name (keys_of rest) × ((keys : List Key) → Walks state room guid name keys → keys ≡ keys_of rest)
    walk_from pre [] split guid name at = (at, walks_end guid name at)
    walk_from pre (e ∷ rest) split guid name at =
        let go = walk_from (pre ++ e ∷ []) rest (split ∙ sym (append_assoc pre (e ∷ []) rest)) e.0.guid e.0.name (next_reply-behind pre e rest split room wide) in
        ((at, go.0), walks_on guid name e.0 (keys_of rest) at go.1)

    -- an empty name asks for the first key, whatever the GUID
    next_reply-first : (guid : Guid) → next_reply state (record { guid = guid; name = []; room = room }) ≡ reply_of seen
    unfolding next_reply next_named
    next_reply-first guid = ap (λ above. next_found above room) next_above-first ∙ next_found-first seen room seen_named wide

    -- a walk from an empty name answers each visible key once, and no other
    pub walk_all : (guid : Guid) (keys : List Key)
        → Walks state room guid [] (visible_keys state) × (Walks state room guid [] keys → keys ≡ visible_keys state)
    walk_all guid keys = let walk = walk_from [] seen refl guid [] (next_reply-first guid) in (walk.0, walk.1 keys)
