use Rattle.std.proofs.Common.{◌≡◌, ℕ, List, Option, Some, sym, ap, subst, ◌∙◌, length-take-le}
use Rattle.runtime_cache.proofs.BufferAnswers.{next_end, next_fits, next_no_such, next_small}
use Rattle.runtime_cache.specs.Copies.{IsNextAnswered}
use Rattle.var_types.specs.declared.answers.NextAnswer.{NextAnswer}
use Rattle.var_types.specs.declared.key.Key.{Key}
use Rattle.var_types.specs.declared.reply.NextReply.{NextReply}
use Rattle.var_types.specs.declared.reply.NextReply.TheVariants as next
use Rattle.runtime_cache.proofs.copies.copied_next.Goals as goal

-- the same answer by another name
answered_as : (a b : NextAnswer) (buffer : List ℕ) (reply : NextReply) → a ≡ b → IsNextAnswered a buffer reply → IsNextAnswered b buffer reply
answered_as a b buffer reply same is = subst (λ (answer : NextAnswer). IsNextAnswered answer buffer reply) same is

pub slice_bounds-units_of-end : goal.slice_bounds-units_of-end
slice_bounds-units_of-end c =
    let is = answered_as c.args.answer _ c.args.buffer.now c.requires.answered.0 c.in-Ok.is c.requires.answered.1 in
    sym (length-take-le c.in-Ok.units c.args.buffer.now (next_fits is.0 c.args.buffer.now c.requires.answered.0 c.in-Ok.guid c.in-Ok.units is.1).0)

pub returns-in-NoSuch : goal.returns-in-NoSuch
returns-in-NoSuch c =
    record {
      reply = λ reply answered.
          let is = answered_as c.args.answer _ c.args.buffer.now reply c.in-NoSuch.is answered in next_no_such is.0 c.args.buffer.now reply is.1;
    }

pub returns-in-End : goal.returns-in-End
returns-in-End c =
    record {
      reply = λ reply answered.
          let is = answered_as c.args.answer _ c.args.buffer.now reply c.in-End.is answered in next_end is.0 c.args.buffer.now reply is.1;
    }

pub returns-in-TooSmall : goal.returns-in-TooSmall
returns-in-TooSmall c =
    record {
      reply = λ reply answered.
          let is = answered_as c.args.answer _ c.args.buffer.now reply c.in-TooSmall.is answered in
          next_small is.0 c.args.buffer.now reply c.in-TooSmall.needed is.1;
    }

pub returns-in_ok-name-in-Ok : goal.returns-in_ok-name-in-Ok
returns-in_ok-name-in-Ok c =
    record {
      reply = λ reply answered.
          let is = answered_as c.args.answer _ c.args.buffer.now reply c.in-Ok.is answered in
          ap (λ (name : List ℕ). next.Ok (let k : Key = record { guid = c.in-Ok.guid; name = name } in k)) c.in_ok-name-in-Ok.ensures
          ∙ (next_fits is.0 c.args.buffer.now reply c.in-Ok.guid c.in-Ok.units is.1).1;
    }
