use Rattle.std.proofs.Common.{◌≡◌, ℕ, List, Option, Some, sym, ap, subst, ◌∙◌, length-take-le}
use Rattle.runtime_cache.proofs.BufferAnswers.{get_fits, get_none, get_small}
use Rattle.runtime_cache.specs.Copies.{IsGetAnswered}
use Rattle.var_types.specs.Answers.{get_answer}
use Rattle.var_types.specs.declared.answers.GetAnswer.{GetAnswer}
use Rattle.var_types.specs.declared.reply.GetReply.{GetReply}
use Rattle.var_types.specs.declared.reply.GetReply.TheVariants as get
use Rattle.runtime_cache.proofs.copies.copied_get.Goals as goal

-- the same answer by another name
answered_as : (a b : GetAnswer) (buffer : List ℕ) (reply : GetReply) → a ≡ b → IsGetAnswered a buffer reply → IsGetAnswered b buffer reply
answered_as a b buffer reply same is = subst (λ (answer : GetAnswer). IsGetAnswered answer buffer reply) same is

pub slice_bounds-copy-end : goal.slice_bounds-copy-end
slice_bounds-copy-end c =
    let is = answered_as c.args.answer _ c.args.buffer.now c.requires.answered.0 c.in-Ok.is c.requires.answered.1 in
    sym (length-take-le c.in-Ok.length c.args.buffer.now (get_fits is.0 c.args.buffer.now c.requires.answered.0 c.in-Ok.attributes c.in-Ok.length is.1).0)

pub returns-in-NotFound : goal.returns-in-NotFound
returns-in-NotFound c =
    record {
      reply = λ reply answered.
          let is = answered_as c.args.answer _ c.args.buffer.now reply c.in-NotFound.is answered in get_none is.0 c.args.buffer.now reply is.1;
    }

pub returns-in-TooSmall : goal.returns-in-TooSmall
returns-in-TooSmall c =
    record {
      reply = λ reply answered.
          let is = answered_as c.args.answer _ c.args.buffer.now reply c.in-TooSmall.is answered in
          get_small is.0 c.args.buffer.now reply c.in-TooSmall.attributes c.in-TooSmall.needed is.1;
    }

pub returns-in_ok-bytes-in-Ok : goal.returns-in_ok-bytes-in-Ok
returns-in_ok-bytes-in-Ok c =
    record {
      reply = λ reply answered.
          let is = answered_as c.args.answer _ c.args.buffer.now reply c.in-Ok.is answered in
          ap (get.Ok c.in-Ok.attributes) c.in_ok-bytes-in-Ok.ensures ∙ (get_fits is.0 c.args.buffer.now reply c.in-Ok.attributes c.in-Ok.length is.1).1;
    }
