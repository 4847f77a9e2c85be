-- How far a processor is from the end of its call: each step brings it nearer, or answers the call.
use Rattle.std.proofs.Common.{◌≡◌, ◌⊎◌, ℕ, ◌+◌, ◌<◌, [], ◌∷◌, ◌++◌, length, refl, sym, subst, inl, inr, lit<, arith}
use Rattle.std.specs.Prelude.{slice_set}
use Rattle.var_types.specs.declared.answered.Answered.{Answered}
use Rattle.svc_core.specs.declared.point.Point.{Point}
use Rattle.svc_core.specs.declared.point.Point.TheVariants.{Start, LoadMade, LoadHeld, TakeCache, Look, Unlock}
use Rattle.svc_core.specs.declared.point.Point.TheVariants.{MergeEnter, MergeLoadMade, MergeTakeCache, Merge, MergePutCache, MergeLeave, MergeUnlock}
use Rattle.svc_core.specs.declared.point.Point.TheVariants.{AskEnter, AskLook, AskLeave, Decide, Write, TryLock}
use Rattle.svc_core.specs.declared.point.Point.TheVariants.{FlushTakeCache, Flush, FlushSwapHeld, FlushPutCache, FlushUnlock, Defer, Leave}
use Rattle.svc_core.specs.Rows as row
use Rattle.svc_core.specs.Rows.{Row}
use Rattle.svc_core.specs.World.{Processor, World, done}

-- how many of the two first points of a call a processor still has before it: its start, and the writer's decision
abbrev pub level : Point → ℕ
level Start = 2
level Decide = 1
level _ = 0

-- how many steps there are at most from a point behind these two to the end of the call
abbrev pub rank : Point → ℕ
rank LoadMade = 9
rank (LoadHeld made) = 8
rank (MergeEnter made held) = 7
rank (MergeLoadMade made held) = 6
rank (MergeTakeCache made held place) = 5
rank (Merge made held place) = 4
rank (MergePutCache made held place reply) = 3
rank (MergeLeave made held place reply) = 2
rank (MergeUnlock made held place reply) = 1
rank (TakeCache place) = 3
rank (Look place) = 2
rank (Unlock place reply) = 1
rank (AskEnter holder) = 3
rank (AskLook holder) = 2
rank (AskLeave holder place reply) = 1
rank (Write place reply steps change) = length steps + 8
rank (TryLock place reply) = 7
rank (FlushTakeCache place reply) = 6
rank (Flush place reply) = 5
rank (FlushSwapHeld place reply) = 4
rank (FlushPutCache place reply) = 3
rank (FlushUnlock place reply) = 2
rank (Defer place reply holder) = 2
rank (Leave place reply route) = 1
rank Start = 0
rank Decide = 0

-- a point is nearer to the end of the call than another
abbrev pub IsNearer : Point → Point → Type 0
IsNearer x y = (level y < level x) ⊎ ((level x ≡ 0) × (level y ≡ 0) × (rank y < rank x))

-- a processor before a step, and behind it
pub data IsStepOf (a b : Processor) : Type 0 where
  nearer : b.answered ≡ a.answered → IsNearer a.point b.point → IsStepOf a b
  answers : (x : Answered) → b.answered ≡ a.answered ++ x ∷ [] → IsStepOf a b

-- a step of one of a world's processors
pub record IsStepIn (w : World) (p : ℕ) (a : Processor) (next : World) : Type 0 where
  pub behind : Processor
  pub processors : next.processors ≡ slice_set w.processors p behind
  pub how : IsStepOf a behind

module _ (w : World) (p : ℕ) (a : Processor) where
  -- it comes to another point
  comes : (x y : Point) → a.point ≡ x → IsNearer x y → (next : World)
      → next.processors ≡ slice_set w.processors p (let b : Processor = record a { point = y } in b) → IsStepIn w p a next
  comes x y at near next same = record {
    behind = record a { point = y };
    processors = same;
    how = nearer refl (subst (λ (z : Point). IsNearer z y) (sym at) near);
  }

  -- from one of the two first points
  begins : (x y : Point) → a.point ≡ x → level y < level x → (next : World)
      → next.processors ≡ slice_set w.processors p (let b : Processor = record a { point = y } in b) → IsStepIn w p a next
  begins x y at fewer = comes x y at (inl fewer)

  -- from another
  goes : (x y : Point) → a.point ≡ x → level x ≡ 0 → level y ≡ 0 → rank y < rank x → (next : World)
      → next.processors ≡ slice_set w.processors p (let b : Processor = record a { point = y } in b) → IsStepIn w p a next
  goes x y at before behind fewer = comes x y at (inr (before, behind, fewer))

  steps : (next : World) → Row w p a next → IsStepIn w p a next
  steps _ (row.lock_free call calls at is reads free) = begins Start LoadMade at (lit< tt) _ refl
  steps _ (row.lock_taken call calls at is reads taken) = begins Start (AskEnter w.lock) at (lit< tt) _ refl
  steps _ (row.load_made at) = goes LoadMade (LoadHeld w.writer.made) at refl refl (lit< tt) _ refl
  steps _ (row.held_is_made made at same) = goes (LoadHeld made) (TakeCache made) at refl refl (lit< tt) _ refl
  steps _ (row.held_is_behind made at apart) = goes (LoadHeld made) (MergeEnter made w.cached.held) at refl refl (lit< tt) _ refl
  steps _ (row.take_cache place at) = goes (TakeCache place) (Look place) at refl refl (lit< tt) _ refl
  steps _ (row.look_in_cache place call calls at is) = goes (Look place) (Unlock place _) at refl refl (lit< tt) _ refl
  steps _ (row.unlock place reply call calls at is) = record { behind = done a call calls place _ reply; processors = refl; how = answers _ refl }
  steps _ (row.merge_enter made held at free) = goes (MergeEnter made held) (MergeLoadMade made held) at refl refl (lit< tt) _ refl
  steps _ (row.merge_load_made made held at) =
      goes (MergeLoadMade made held) (MergeTakeCache made held w.writer.made) at refl refl (lit< tt) _ refl
  steps _ (row.merge_take_cache made held place at) = goes (MergeTakeCache made held place) (Merge made held place) at refl refl (lit< tt) _ refl
  steps _ (row.merge made held place call calls at is) = goes (Merge made held place) (MergePutCache made held place _) at refl refl (lit< tt) _ refl
  steps _ (row.merge_put_cache made held place reply at) =
      goes (MergePutCache made held place reply) (MergeLeave made held place reply) at refl refl (lit< tt) _ refl
  steps _ (row.merge_leave made held place reply at) =
      goes (MergeLeave made held place reply) (MergeUnlock made held place reply) at refl refl (lit< tt) _ refl
  steps _ (row.merge_unlock made held place reply call calls at is) =
      record { behind = done a call calls place _ reply; processors = refl; how = answers _ refl }
  steps _ (row.ask_enter holder at free) = goes (AskEnter holder) (AskLook holder) at refl refl (lit< tt) _ refl
  steps _ (row.ask_look holder call calls at is) = goes (AskLook holder) (AskLeave holder w.writer.made _) at refl refl (lit< tt) _ refl
  steps _ (row.ask_leave holder place reply call calls at is) =
      record { behind = done a call calls place _ reply; processors = refl; how = answers _ refl }
  steps _ (row.enter call calls at is other free) = begins Start Decide at (lit< tt) _ refl
  steps _ (row.decide_no_change call calls reply own at is plan) = begins Decide (Leave w.writer.made reply _) at (lit< tt) _ refl
  steps _ (row.decide_change call calls reply more change own at is plan) = begins Decide (Write w.writer.made reply more change) at (lit< tt) _ refl
  steps _ (row.flash_step place reply step more change at) =
      goes (Write place reply (step ∷ more) change) (Write place reply more change) at refl refl (let less : length more + 8 < length (step ∷ more) + 8 = omega arith in less) _ refl
  steps _ (row.take_change place reply change at) = goes (Write place reply [] change) (TryLock place reply) at refl refl (lit< tt) _ refl
  steps _ (row.flush_lock place reply at free) = goes (TryLock place reply) (FlushTakeCache place reply) at refl refl (lit< tt) _ refl
  steps _ (row.flush_later place reply at busy) = goes (TryLock place reply) (Defer place reply w.lock) at refl refl (lit< tt) _ refl
  steps _ (row.flush_take_cache place reply at) = goes (FlushTakeCache place reply) (Flush place reply) at refl refl (lit< tt) _ refl
  steps _ (row.flush place reply at) = goes (Flush place reply) (FlushSwapHeld place reply) at refl refl (lit< tt) _ refl
  steps _ (row.flush_swap_held place reply at) = goes (FlushSwapHeld place reply) (FlushPutCache place reply) at refl refl (lit< tt) _ refl
  steps _ (row.flush_put_cache place reply at) = goes (FlushPutCache place reply) (FlushUnlock place reply) at refl refl (lit< tt) _ refl
  steps _ (row.flush_unlock place reply at) = goes (FlushUnlock place reply) (Leave place reply _) at refl refl (lit< tt) _ refl
  steps _ (row.defer place reply holder at) = goes (Defer place reply holder) (Leave place reply _) at refl refl (lit< tt) _ refl
  steps _ (row.leave place reply route call calls at is) = record { behind = done a call calls place route reply; processors = refl; how = answers _ refl }

pub row_steps : (w : World) (p : ℕ) (a : Processor) (next : World) → Row w p a next → IsStepIn w p a next
row_steps w p a next taken = steps w p a next taken
