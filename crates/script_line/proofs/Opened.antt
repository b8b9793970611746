-- What the goals of this crate's functions unfold: the choices with their tests, and the readers of a line's words.
use Rattle.std.specs.Prelude.{⊤}
use Rattle.base_choice.specs.Choice.{pick, is_below, is_same}
use Rattle.script_line.specs.Orders.{verb_in, verb_of, count_ok, words_counted, fresh_with, fresh_at, value_or, sent_at, command_at, policy_line_at, keyed_at, stored_at, finished_at, order_by, order_of}

unfoldable pub orders : ⊤
unfolding pick is_below is_same verb_in verb_of count_ok words_counted fresh_with fresh_at value_or sent_at command_at policy_line_at keyed_at stored_at finished_at order_by order_of
orders = tt
