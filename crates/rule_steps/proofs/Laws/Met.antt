-- Each by computing.
use mathlib.Core.Path.{refl}
use Rattle.base_status.specs.Rows.{word_of}
use Rattle.base_bytes.specs.Bytes.{same_bytes}
use Rattle.card_isdp.specs.Aids.{padded}
use Rattle.card_isdp.specs.Place.{is_for, clash, zeros, place_ok}
use Rattle.card_places.specs.Places.{seek, quotas, all_of, any_of, count_of, distinct}
use Rattle.card_record.specs.Sound.{phase_ok, sound}
use Rattle.card_record.specs.Answers.{accepted, refused}
use Rattle.card_record.specs.Fresh.{fresh_outcome}
use Rattle.rule_responses.specs.Responses.{next_row_from, next_row_after}
use Rattle.rule_steps.specs.Laws.Met.{RowsMet, LawsMet}

rows-met : RowsMet
unfolding word_of same_bytes padded is_for seek sound quotas all_of any_of count_of distinct phase_ok clash zeros place_ok refused
rows-met =
    record {
      create-open = (refl, refl, refl);
      create = (refl, refl);
      enable-open = (refl, refl, refl);
      enable = (refl, refl, refl);
      disable-open = (refl, refl, refl);
      disable = (refl, refl, refl, refl);
      delete-open = (refl, refl, refl);
      delete = (refl, refl, refl, refl);
      master-delete-open = (refl, refl, refl);
      master-delete = (refl, refl, refl, refl);
      set-fall-back-open = (refl, refl, refl);
      set-fall-back = (refl, refl, refl);
      confirmation = (refl, refl, refl, refl);
      status-of-next = refl;
      status-of-one = λ life attribute. refl;
      keyed = (refl, refl, refl);
      stored = (refl, refl, refl, refl);
      finished-values = (refl, refl, refl);
      finished = (refl, refl, refl);
      set-policy = (refl, refl, refl, refl);
    }

pub laws-met : LawsMet
unfolding word_of same_bytes padded is_for clash zeros place_ok seek quotas all_of any_of count_of distinct phase_ok sound next_row_from next_row_after accepted fresh_outcome
laws-met =
    record {
      quiet-sound = refl;
      away-sound = refl;
      trial-sound = (refl, refl);
      back-sound = (refl, refl, refl);
      fallen-sound = (refl, refl);
      begins = refl;
      creates = refl;
      keys = refl;
      stores = refl;
      finishes = (refl, refl);
      sets-policy = (refl, refl, refl, refl, refl);
      enables = refl;
      disables = refl;
      deletes = (refl, refl, refl);
      master-deletes = refl;
      sets-fall-back = refl;
      confirms-trial = refl;
      confirms-back = refl;
      confirms-fallen = refl;
      keeps-sound = refl;
      lists-on = refl;
      tells-status = λ life attribute. refl;
      each_row = rows-met;
    }
