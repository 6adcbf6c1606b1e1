use Rattle.std.proofs.Common.{rules, ◌≡◌, ◌∙◌, Ok, Err, [], Bool, map, take, false, true, true≢false, string_bytes, ◌∷◌, Bor, sym, ap, ap₂, get_or, inl, inr, subst}
use Rattle.clap.specs.Words.{fault_of, matches_of}
use Rattle.clap.specs.Walk.{Text, rule_of, texts}
use Rattle.clap.specs.Simple.{App, app_of, is_simple, with_rule}
use Rattle.clap.specs.Kinds.{HasKind}
use Rattle.command_words.specs.Reading.{app_with, option_rule}
use Rattle.command_words.proofs.AppFacts.{free_app, simple_app}
use Rattle.command_words.proofs.options.matches_in.Goals as goal
use Rattle.clap.specs.Simple.{app_of_fields}
use Rattle.std.proofs.Common.{Result, IsErrAnd}
use Rattle.command_words.specs.declared.options.NotTaken.{NotTaken}
use Rattle.command_words.specs.declared.options.NotTaken.TheVariants.{NoMemory, Refused}
use Rattle.clap.specs.Faults.{is_simple_and_free}
use Rattle.clap.specs.declared.builder.command.Command.{Command}
use Rattle.clap.specs.declared.builder.command.Command.TheOpen.{Command-F}
use Rattle.std.proofs.lemmas.List.{map_more, map-append, take_all}

abbrev is_memory : NotTaken → Bool
is_memory NoMemory = true
is_memory Refused = false

abbrev fault_or : {T : Type 0} → Result T NotTaken → Bool
fault_or (Ok x) = true
fault_or (Err g) = is_memory g

never_words : {T : Type 0} (r : Result T NotTaken) → IsErrAnd r (λ e. e ≡ NoMemory) → r ≡ Err Refused → ⊥
never_words (Ok x) is e = absurd is
never_words (Err f) is e = true≢false (ap is_memory (sym is) ∙ ap fault_or e)

pub loop-name-init : goal.loop-name-init
loop-name-init c = ap app_of_fields (c.no_binary_name-command.ensures ∙ ap (λ (f : Command-F Command). record f { no_binary_name = true }) c.disable_help_flag.ensures)
    ∙ ap (λ (a : App). record a { top = record a.top { disable_help_flag = true; no_binary_name = true } }) c.new.ensures.app

pub returns-in_err-command-clause-refused : goal.returns-in_err-command-clause-refused
returns-in_err-command-clause-refused c is =
    absurd (never_words c.from_residual.result c.from_residual.ensures.1 is)

pub loop-name-preserved : goal.loop-name-preserved
loop-name-preserved c =
    let i = c.loop-name.name-index in
    let d : Bor Text = record { ref_ptr = (0, 0); now = [] } in
    let rule_is : rule_of c.action-option.result ≡ option_rule (get_or c.args.names.now i d).now = search rules in
    c.in_ok-command.ensures.shape (search rules) ∙ ap₂ with_rule c.loop-name.invariant rule_is
    ∙ ap (λ rs. record (app_with []) { top = record (app_with []).top { rules = rs } })
    (sym (map-append option_rule (texts (take i c.args.names.now)) ((get_or c.args.names.now i d).now ∷ [])))
    ∙ ap app_with (sym (map_more (λ s. s.now) c.args.names.now i d c.loop-name-test.true))

pub returns-in-Ok-clause-found : goal.returns-in-Ok-clause-found
returns-in-Ok-clause-found c =
    let names = c.args.names.now in
    let app_is : app_of c.loop-name.command ≡ app_with (texts names) = c.loop-name.invariant ∙ ap (λ xs. app_with (texts xs)) (take_all c.loop-name.name-index names c.loop-name-test.false) in
    let words = map (λ w. string_bytes w) c.args.words.now in (
      ap (λ a. fault_of a words) (sym app_is) ∙ c.in-Ok.ensures.kinds (ap is_simple_and_free app_is ∙ free_app (texts names)),
      (c.in-Ok.ensures.matches (ap is_simple app_is ∙ simple_app (texts names))).0 ∙ ap (λ a. matches_of a words) app_is,
    )

pub returns : goal.returns
returns c =
    let names = c.args.names.now in
    let app_is : app_of c.loop-name.command ≡ app_with (texts names) = c.loop-name.invariant ∙ ap (λ xs. app_with (texts xs)) (take_all c.loop-name.name-index names c.loop-name-test.false) in
    let words = map (λ w. string_bytes w) c.args.words.now in
    let k = c.in-Err.ensures.kinds (ap is_simple_and_free app_is ∙ free_app (texts names)) in
    let not_memory = c.in_default.not-OutOfMemory in
    record {
      found = tt;
      refused = λ is none. elim (subst (λ ks. HasKind ks c.in-Err.error) (ap (λ a. fault_of a words) app_is ∙ none) k) [
        | inl memory ↦ absurd (not_memory (c.kind.ensures ∙ memory))
        | inr among ↦ absurd among
      ];
    }
