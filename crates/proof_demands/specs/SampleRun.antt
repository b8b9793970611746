-- A run that meets the hypotheses of 'Who may influence what', by command bytes: 02 and 03 are made beside the first profile, 02 to be
-- deleted once disabled; 02 is enabled and confirmed, then 03, and the confirmation of that is left to come.
use Rattle.std.specs.Prelude.{List, [], ◌∷◌, ◌++◌}
use Rattle.card_record.specs.declared.Card.{Card}
use Rattle.rule_run.specs.Calls.{Call, Call.Tick}
use Rattle.rule_run.specs.Step.{run}
use Rattle.rule_run.specs.Samples.{enable, confirm, fresh, load}

abbrev pub loading : List Call
loading = load 2 4 ++ load 3 0

abbrev pub changing : List Call
changing = enable 2 ∷ confirm 1 ∷ Tick ∷ enable 3 ∷ Tick ∷ []

abbrev pub loaded : Card
loaded = run fresh loading

abbrev pub after_change : Card
after_change = run loaded changing
