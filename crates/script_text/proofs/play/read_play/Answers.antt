use Rattle.std.proofs.Common.{◌≡◌, Ok, length, map, sym, ap, ◌∙◌, arith}
use Rattle.std.proofs.lemmas.List.{length-map}
use Rattle.script_text.specs.declared.calls_end.CallsEnd.TheVariants.{Schedule}
use Rattle.script_text.proofs.CallLines.{calls_until-few}
use Rattle.script_text.proofs.Plays.{found_play, refused_calls, refused_schedule}
use Rattle.script_text.proofs.play.read_play.Goals as goal

pub returns-in_err-read-clause-play : goal.returns-in_err-read-clause-play
returns-in_err-read-clause-play c =
    refused_calls c.from_residual.result c.in_err-read.field-0.0 c.args.bytes.now c.from_residual.ensures.1 c.in_err-read.ensures.err

pub read_schedule-requires-clause-few : goal.read_schedule-requires-clause-few
read_schedule-requires-clause-few c =
    omega (arith, c.len.ensures, c.in_ok-read.read.calls.ok.0, length-map c.in_ok-read.read.calls.items (λ v. v.items), (calls_until-few Schedule _ _ c.in_ok-read.ensures.calls).few)

pub returns-in_err-schedule-clause-play : goal.returns-in_err-schedule-clause-play
returns-in_err-schedule-clause-play c =
    let read = c.in_ok-read.read in
    let counted : c.len.result ≡ length (map (λ v. v.items) read.calls.items) = omega (arith, c.len.ensures, read.calls.ok.0, length-map read.calls.items (λ v. v.items)) in
    refused_schedule c.args.bytes.now read.rest.now _ read.number c.len.result c.in_ok-read.ensures.calls c.in_ok-read.ensures.behind c.in_ok-read.ensures.numbered counted c.from_residual-in_err-schedule.result c.in_err-schedule.field-0.0 c.from_residual-in_err-schedule.ensures.1 c.in_err-schedule.ensures

pub returns-clause-play : goal.returns-clause-play
returns-clause-play c =
    let read = c.in_ok-read.read in
    let counted : c.len.result ≡ length c.new-script.result = omega (arith, c.len.ensures, read.calls.ok.0, length-map read.calls.items (λ v. v.items), ap length c.new-script.ensures) in
    found_play c.args.bytes.now read.rest.now c.new-script.result read.number c.len.result (c.in_ok-read.ensures.calls ∙ ap Ok (sym c.new-script.ensures)) c.in_ok-read.ensures.behind c.in_ok-read.ensures.numbered counted c.in_ok-schedule.schedule c.in_ok-schedule.ensures

pub returns-clause-some : goal.returns-clause-some
returns-clause-some c = (calls_until-few Schedule _ _ (c.in_ok-read.ensures.calls ∙ ap Ok (sym c.new-script.ensures))).some

pub returns-clause-few : goal.returns-clause-few
returns-clause-few c = (calls_until-few Schedule _ _ (c.in_ok-read.ensures.calls ∙ ap Ok (sym c.new-script.ensures))).few

pub returns-clause-short : goal.returns-clause-short
returns-clause-short c = (calls_until-few Schedule _ _ (c.in_ok-read.ensures.calls ∙ ap Ok (sym c.new-script.ensures))).short
