-- Document 01, 'The card': "A notification is handed out as values: kind, number, EID and the AID of the profile then enabled."
-- The codes are 000's (4.1.1.11, Notification type).
use Rattle.std.specs.Prelude.{ℕ, cond, replicate, eqb}
use Rattle.card_isdp.specs.Sizes.{eid_size}
use Rattle.card_isdp.specs.Aids.{no_aid}
use Rattle.card_record.specs.Cards.{enabled_aid}
use Rattle.card_record.specs.declared.Card.{Card}
use Rattle.card_record.specs.declared.Kind.{Kind}
use Rattle.card_record.specs.declared.Kind.TheVariants.{Silent, Changed, RolledBack, FallenBack}
use Rattle.card_record.specs.declared.Notification.{Notification}
use Rattle.card_record.specs.declared.Phase.{Phase}
use Rattle.card_record.specs.declared.Phase.TheVariants.{Quiet, Trial, Back, Fallen}

-- "changed, rolled back, fallen back; codes in 000" (decisions 46, B12)
abbrev pub code_of : Kind → ℕ
code_of Silent = 0x00
code_of Changed = 0x02
code_of RolledBack = 0x03
code_of FallenBack = 0x05

abbrev pub notice_kind : Phase → Kind
notice_kind Quiet = Silent
notice_kind (Trial previous left number) = Changed
notice_kind (Back left number) = RolledBack
notice_kind (Fallen left number) = FallenBack

-- no notification: one value, so that two answers without one are equal (decision B12)
abbrev pub silent : Notification
silent = record { kind = Silent; number = 0; eid = replicate eid_size 0; aid = no_aid }

-- the notification of the number last issued, of a kind (decision 46)
abbrev pub issued_as : Kind → Card → Notification
issued_as kind c = record { kind = kind; number = c.last; eid = c.eid; aid = enabled_aid c }

abbrev pub issued : Card → Notification
issued c = issued_as (notice_kind c.phase) c

-- a card after one whose last number was `last`: one is handed out exactly where a number was issued (decision B13)
unfoldable pub notice_since : ℕ → Card → Notification
notice_since last d = cond (eqb d.last last) silent (issued d)
