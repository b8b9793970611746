-- What the goals of this crate's functions unfold: the cases of the phase, what a step makes of them, and soundness by its groups.
use Rattle.std.specs.Prelude.{⊤}
use Rattle.card_record.specs.Clock.{tick_of, without_network, confirm_of}
use Rattle.card_record.specs.Steps.{tick_step, lost_step, confirm_step}
use Rattle.card_record.specs.Ticks.{ticks_by_phase}
use Rattle.card_record.specs.Notifications.{notice_since}
use Rattle.card_record.specs.Sound.{phase_ok, sound}

unfoldable pub cards : ⊤
unfolding tick_of without_network confirm_of tick_step lost_step confirm_step ticks_by_phase notice_since phase_ok sound
cards = tt
