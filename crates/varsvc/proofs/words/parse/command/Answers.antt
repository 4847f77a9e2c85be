use Rattle.std.proofs.Common.{◌≡◌, ap, ap₂, ◌∙◌, rules}
use Rattle.std.proofs.lemmas.Result.{IfOk-weaker}
use Rattle.clap.specs.Words.{App, app_of, with_subcommand}
use Rattle.varsvc.specs.Cli.{bare}
use Rattle.varsvc.proofs.words.parse.command.Goals as goal

pub returns : goal.returns
returns c =
    let top : App → _ = λ a. a.top in
    let bare_is : app_of c.disable_version_flag-bare.result ≡ bare = search rules in
    IfOk-weaker c.subcommand-7.result _ _
    (λ r added. added.shape c.in_ok-audit.ensures.local
    ∙ ap₂ with_subcommand
    (c.in_ok-subcommand-6.ensures.shape c.in_ok-work.ensures.local
    ∙ ap₂ with_subcommand
    (c.in_ok-subcommand-5.ensures.shape c.in_ok-make.ensures.local
    ∙ ap₂ with_subcommand
    (c.in_ok-subcommand-4.ensures.shape c.in_ok-format.ensures.local
    ∙ ap₂ with_subcommand
    (c.in_ok-subcommand-3.ensures.shape c.in_ok-check.ensures.local
    ∙ ap₂ with_subcommand
    (c.in_ok-subcommand-2.ensures.shape c.in_ok-list.ensures.local
    ∙ ap₂ with_subcommand (c.in_ok-subcommand.ensures.shape c.in_ok-run.ensures.local ∙ ap₂ with_subcommand bare_is (ap top c.in_ok-run.ensures.app))
    (ap top c.in_ok-list.ensures.app))
    (ap top c.in_ok-check.ensures.app))
    (ap top c.in_ok-format.ensures.app))
    (ap top c.in_ok-make.ensures.app))
    (ap top c.in_ok-work.ensures.app))
    (ap top c.in_ok-audit.ensures.app))
    c.subcommand-7.ensures
