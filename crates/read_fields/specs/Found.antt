-- What is read of a data field: the request that it makes, or that it is wrong.
use Rattle.std.specs.Prelude.{Option}
use Rattle.read_fields.specs.declared.request.Request.{Request}

abbrev pub Field : Type 0
Field = Option Request
