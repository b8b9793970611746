-- Of the table's rows only that of an open change looks at the phase, and the calls that are allowed do not meet it. Assumes nothing.
use mathlib.Core.Path.{◌≡◌, refl, ap, sym, ◌∙◌}
use mathlib.Core.List.{List, ◌∷◌}
use mathlib.Core.Bool.{Bool, true, not}
use Rattle.base_status.specs.Rows.{Row, row, word_of}
use Rattle.base_status.specs.declared.Status.{Status}
use Rattle.base_status.specs.declared.Status.TheVariants.{Unsound, BufferShort, LengthWrong, ClassWrong, InstructionWrong, ParametersWrong, DataWrong}
use Rattle.card_record.specs.Cards.{in_phase}
use Rattle.card_record.specs.Sound.{sound}
use Rattle.card_record.specs.declared.Card.{Card}
use Rattle.card_record.specs.declared.Phase.TheVariants.{Quiet}
use Rattle.card_record.proofs.Sounds.{parts, whole}
use Rattle.read_frame.specs.Framing.{length_wrong, class_wrong, parameters_wrong, shape_wrong}
use Rattle.rule_steps.specs.Asked.{Act.status, Act.keyed, Act.stored, Act.finished, Asked, Asked.on, Asked.status_of_all, Asked.get_data, Asked.tick, Asked.lost}
use Rattle.rule_responses.specs.Responses.{next_row_after}
use Rattle.rule_steps.specs.Conditions.{card_rows}
use Rattle.rule_steps.specs.Steps.{goes_on_at, part_word, success_of}
use Rattle.rule_run.specs.Calls.{Call, Call.Command, Call.Keyed, Call.Stored, Call.Finished, Call.Tick, Call.Lost, Call.PolicyUpdate}
use Rattle.rule_run.specs.Table.{buffer_short, in_command, instruction_unknown, values_wrong, table}
use Rattle.proof_demands.specs.WhileOpen as statement
use Rattle.rule_run.proofs.Words.{word-is}

-- the values of a call are the same on the same card in Quiet
values_same : (c : Card) (call : Call) → values_wrong c call ≡ values_wrong (in_phase c Quiet) call
values_same c (Command verdict s room) = refl
values_same c (Keyed aid) = refl
values_same c (Stored aid n) = refl
values_same c (Finished aid policy mark) = refl
values_same c Tick = refl
values_same c Lost = refl
values_same c (PolicyUpdate speaker s room) = refl

quiet-sound : (c : Card) → sound c ≡ true → sound (in_phase c Quiet) ≡ true
quiet-sound c s =
    let p = parts c s in
    let z = p.sizes in
    let l = p.placed in
    let r = p.roles in
    whole _
    (record {
      sizes = record { named = z.named; full = z.full; numbered = z.numbered; some = z.some; most = z.most };
      placed = record { each = l.each; apart = l.apart; room = l.room };
      roles = record { one = r.one; resort = r.resort; listing = r.listing };
      phased = tt;
    })

-- the table of a call by what its rows look at: soundness, the values, the card
abbrev table_of : Call → Bool → Bool → List Row → List Row
table_of call is_sound wrong rows =
    row (not is_sound) Unsound
    ∷ row (buffer_short call) BufferShort
    ∷ row (in_command length_wrong call) LengthWrong
    ∷ row (in_command class_wrong call) ClassWrong
    ∷ row (instruction_unknown call) InstructionWrong
    ∷ row (in_command parameters_wrong call) ParametersWrong
    ∷ row (in_command shape_wrong call) LengthWrong
    ∷ row wrong DataWrong
    ∷ rows

status-same : (a : Asked) → ((c : Card) → card_rows c a ≡ card_rows (in_phase c Quiet) a) → ((c : Card) → success_of c a ≡ success_of (in_phase c Quiet) a) → statement.Allowed a
status-same a f g c call s e =
    let d = in_phase c Quiet in
    let w = success_of c a in
    word-is c call
    ∙ ap (λ (x : Asked). word_of (success_of c x) (table c call)) e
    ∙ ap (λ (x : Asked). word_of w (table_of call (sound c) (values_wrong c call) (card_rows c x))) e
    ∙ ap (λ (b : Bool). word_of w (table_of call b (values_wrong c call) (card_rows c a))) (s ∙ sym (quiet-sound c s))
    ∙ ap (λ (b : Bool). word_of w (table_of call (sound d) b (card_rows c a))) (values_same c call)
    ∙ ap (λ (rows : List Row). word_of w (table_of call (sound d) (values_wrong d call) rows)) (f c)
    ∙ ap (λ (x : Asked). word_of w (table_of call (sound d) (values_wrong d call) (card_rows d x))) (sym e)
    ∙ ap (λ (x : Status). word_of x (table d call)) (g c ∙ ap (success_of d) (sym e))
    ∙ sym (word-is d call)

-- what is left of a listing asks nothing of the phase
part-in-quiet : (c : Card) (next life fallback : Bool) → part_word (goes_on_at c next life fallback) ≡ part_word (goes_on_at (in_phase c Quiet) next life fallback)
unfolding next_row_after
part-in-quiet c next life fallback = refl

pub allowed-while-open : statement.AllowedWhileOpen
allowed-while-open =
    record {
      keyed-allowed = λ aid. status-same (on aid keyed) (λ c. refl) (λ c. refl);
      stored-allowed = λ aid n. status-same (on aid (stored n)) (λ c. refl) (λ c. refl);
      finished-allowed = λ aid policy mark. status-same (on aid (finished policy mark)) (λ c. refl) (λ c. refl);
      status-of-all-allowed = λ next life fallback. status-same (status_of_all next life fallback) (λ c. refl) (λ c. part-in-quiet c next life fallback);
      status-of-one-allowed = λ aid life fallback. status-same (on aid (status life fallback)) (λ c. refl) (λ c. refl);
      get-data-allowed = status-same get_data (λ c. refl) (λ c. refl);
      tick-allowed = status-same tick (λ c. refl) (λ c. refl);
      lost-allowed = status-same lost (λ c. refl) (λ c. refl);
    }
