-- Replies that are counted, one answered call more each time.
use Rattle.std.proofs.Common.{◌≡◌, ℕ, ◌+◌, ◌<◌, Bool, true, false, List, length, get_or, take, count_by, sym, ap, ◌∙◌, arith}
use Rattle.std.proofs.lemmas.List.{get_or-map, length-map}
use Rattle.std.proofs.lemmas.List.Sums.{count_by_more_no, count_by_more_yes}
use Rattle.var_types.specs.declared.answered.Answered.{Answered}
use Rattle.var_types.specs.declared.reply.Reply.{Reply}
use Rattle.report_text.specs.Summary.{replies_of}

module _ (p : Reply → Bool) (answered : List Answered) (i count : ℕ) (a : Answered) (within : i < length answered) (is : a ≡ get_or answered i a) where
  -- the reply of the answered call
  reply_is : get_or (replies_of answered) i a.reply ≡ a.reply
  reply_is = get_or-map (λ (x : Answered). x.reply) answered i a a.reply within ∙ ap (λ (x : Answered). x.reply) (sym is)

  there : i < length (replies_of answered)
  there = omega (arith, length-map answered (λ (x : Answered). x.reply))

  pub counted_yes : p a.reply ≡ true → count ≡ count_by p (take i (replies_of answered)) → count + 1 ≡ count_by p (take (i + 1) (replies_of answered))
  counted_yes passes counted =
      ap (λ (n : ℕ). n + 1) counted ∙ sym (count_by_more_yes p (replies_of answered) i a.reply there (ap p reply_is ∙ passes))

  pub counted_no : p a.reply ≡ false → count ≡ count_by p (take i (replies_of answered)) → count ≡ count_by p (take (i + 1) (replies_of answered))
  counted_no fails counted = counted ∙ sym (count_by_more_no p (replies_of answered) i a.reply there (ap p reply_is ∙ fails))
