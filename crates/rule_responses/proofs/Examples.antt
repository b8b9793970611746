-- The worked responses, each by computing the definition. Assumes nothing.
use mathlib.Core.Path.{refl}
use Prim.Native.Nat.{ℕ}
use mathlib.Core.List.{List}
use Rattle.card_isdp.specs.Aids.{padded}
use Rattle.card_places.specs.Places.{quotas, count_of}
use Rattle.rule_responses.specs.Responses.{status_body, status_row, row_of, part_from, next_row_from, part_given, next_row_after, one_status, data_response, deleted_response}
use Rattle.rule_responses.specs.Worked.{lengths_from, Worked}

pub worked : (eid : List ℕ) (figure : ℕ) → Worked eid figure
unfolding lengths_from part_given next_row_after one_status part_from next_row_from row_of status_row status_body padded data_response count_of quotas deleted_response
worked eid figure =
    record {
      example-1 = refl;
      none_left = refl;
      aid-only = refl;
      two-rows = refl;
      named-row = refl;
      not-finished = refl;
      data-figures = refl;
      five-bytes = refl;
      sixteen-bytes = refl;
      aids-only = refl;
      just-fits = refl;
      one-too-many = refl;
      nothing-deleted = refl;
      one-deleted = refl;
    }
