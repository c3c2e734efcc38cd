use Rattle.std.specs.Prelude.{◌≡◌}
use Rattle.dali_problem.specs.Clearing.{Clearing}
use Rattle.dali_cert_text.specs.declared.statement.Statement.TheInside.{Inside}
use Rattle.dali_cert_text.specs.Stating.{ids_of, values_of}

abbrev pub stated : Inside → Clearing
stated a = a.problem

-- the ids and the values of the items so far are kept beside them
pub record IsCounted (a : Inside) : Type 0 where
  pub ids : a.ids.names ≡ ids_of a.problem
  pub total : a.total ≡ values_of a.problem
