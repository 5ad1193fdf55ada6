use Rattle.std.proofs.Common.{◌≡◌, ◌∙◌, ap, codes, sym, subst, true, true≢false}
use Rattle.clap.specs.Simple.{app_of, is_simple, matches_of}
use Rattle.clap.specs.Takes.{takes}
use Rattle.symple_words.specs.Answers.{ReadsAs, is_form}
use Rattle.symple_words.specs.Asked.{app_for}
use Rattle.symple_words.specs.Texts.{Text}
use Rattle.symple_words.specs.Views.{form_of, words_of}
use Rattle.symple_words.proofs.FormLaws.{behind_first, forms_right, reads_as, right_spelling, simple_for, taken}
use Rattle.symple_words.proofs.reading.reading_of.Goals as goal

-- the name under which clap is asked
abbrev program : Text
program = codes "symple"

pub invariant_of-result : goal.invariant_of-result
invariant_of-result c =
    let f = form_of c.form_for-form.result in
    let words = c.args.words.now in
    let form : is_form f ≡ true = ap is_form c.form_for-form.ensures ∙ forms_right c.args.verb in
    let right = right_spelling f words c.in_ok-is_spelt.field-0 c.in_ok-is_spelt.ensures c.if-not-branch.false in
    let app : app_of c.in_ok-command.command ≡ app_for program f = c.in_ok-command.ensures in
    let found = (c.in-Ok.ensures.matches (ap is_simple app ∙ simple_for program f form)).0 in
    record {
      reads = subst (λ behind. ReadsAs f (words_of behind) c.in-Ok.matches) (sym (behind_first words))
          (reads_as program f words c.in-Ok.matches form c.requires.some right
          (found ∙ ap (λ a. matches_of a (words_of words)) app));
    }

pub returns-in-Ok-clause-words : goal.returns-in-Ok-clause-words
returns-in-Ok-clause-words c = ap words_of (behind_first c.args.words.now)

pub returns-clause-refused : goal.returns-clause-refused
returns-clause-refused c =
    let f = form_of c.form_for-form.result in
    let words = c.args.words.now in
    let form : is_form f ≡ true = ap is_form c.form_for-form.ensures ∙ forms_right c.args.verb in
    let right = right_spelling f words c.in_ok-is_spelt.field-0 c.in_ok-is_spelt.ensures c.if-not-branch.false in
    let app : app_of c.in_ok-command.command ≡ app_for program f = c.in_ok-command.ensures in
    let memory = c.in-Err.ensures.passes (ap (λ a. takes a (words_of words)) app
    ∙ taken program f words form c.requires.some right) in
    let same = rw (c.kind.ensures ∙ memory) at c.eq.ensures in
    absurd (true≢false (sym same ∙ c.if-eq.false))
