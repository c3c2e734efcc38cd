use Rattle.dali_marks.proofs.Histories.{entries_true, legal_true}
use Rattle.dali_marks.proofs.Marks.{bound_most, optimal_report, true_report}
use Rattle.dali_marks.proofs.laws.marks_are_true.Goals as goal

pub returns-clause-bounds : goal.returns-clause-bounds
returns-clause-bounds c p budget choice own chosen = bound_most p budget choice own chosen

pub returns-clause-cycles : goal.returns-clause-cycles
returns-clause-cycles c m t budget choice small chosen = true_report m t budget choice small chosen

pub returns-clause-enough : goal.returns-clause-enough
returns-clause-enough c m t budget choice chosen enough = optimal_report m t budget choice chosen enough

pub returns-clause-entries : goal.returns-clause-entries
returns-clause-entries c m last entries are = entries_true m last entries are

pub returns-clause-histories : goal.returns-clause-histories
returns-clause-histories c history legal = legal_true history legal
