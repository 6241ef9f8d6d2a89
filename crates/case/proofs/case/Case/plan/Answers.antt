-- What stands is upheld.
use Rattle.std.proofs.Common.{subst, rules}
use Rattle.rules.specs.Tables.{program}
use Rattle.case.specs.Standings.{Upheld}
use Rattle.case.proofs.Opened.{upheld_opened}
use Rattle.case.proofs.case.Case.plan.Goals as goal

pub returns-in-Plan : goal.returns-in-Plan
returns-in-Plan c =
    let t = c.args.self.now in
    let stands = subst (Upheld (program t.rules)) c.in-Plan.is (upheld_opened (program t.rules) t.standing t.upheld) in
    record { answer = search rules; law = stands }

pub returns-in-Hold : goal.returns-in-Hold
returns-in-Hold c =
    let t = c.args.self.now in
    let stands = (subst (Upheld (program t.rules)) c.in-Hold.is (upheld_opened (program t.rules) t.standing t.upheld)).0 in
    record { answer = search rules; law = stands }
