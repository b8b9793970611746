-- Document 01, 'Sizes': what is promised of an accepted request: "AID 5 to 16 bytes", standing in the command, and
-- "quota 1 byte up to capacity".
use Rattle.std.specs.Prelude.{ℕ, ◌+◌, ◌≤◌, List, length, Some, None}
use Rattle.base_bytes.specs.declared.Part.{Part}
use Rattle.read_fields.specs.declared.request.Request.{Request}
use Rattle.read_fields.specs.declared.request.Request.TheVariants as request
use Rattle.read_fields.specs.Found.{Field}

pub record Placed (s : List ℕ) (aid : Part) : Type 0 where
  pub held : aid.start + aid.len ≤ length s
  pub least : 5 ≤ aid.len
  pub most : aid.len ≤ 16

pub record Granted (quota capacity : ℕ) : Type 0 where
  pub least : 1 ≤ quota
  pub most : quota ≤ capacity

abbrev pub RequestIn : List ℕ → ℕ → Request → Type 0
RequestIn s capacity (request.Create aid quota) = Placed s aid × Granted quota capacity
RequestIn s capacity (request.Enable aid) = Placed s aid
RequestIn s capacity (request.Disable aid) = Placed s aid
RequestIn s capacity (request.SetFallBack aid) = Placed s aid
RequestIn s capacity (request.Delete aid) = Placed s aid
RequestIn s capacity (request.MasterDelete aid) = Placed s aid
RequestIn s capacity (request.Confirm number) = Unit
RequestIn s capacity (request.GetStatusOfAll next tags) = Unit
RequestIn s capacity (request.GetStatusOfOne aid tags) = Placed s aid
RequestIn s capacity request.GetData = Unit

abbrev pub FieldIn : List ℕ → ℕ → Field → Type 0
FieldIn s capacity None = Unit
FieldIn s capacity (Some r) = RequestIn s capacity r
