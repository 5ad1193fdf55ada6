use Rattle.round_laws.proofs.SentBegin.{begin_sends_ideal}
use Rattle.round_laws.proofs.SentScan.{scan_sends_ideal}
use Rattle.round_laws.proofs.SentTallies.{close_sends_ideal, judge_sends_ideal, tell_sends_ideal}
use Rattle.round_laws.proofs.laws.sends_are_ideal.Goals as goal

pub returns-clause-tell : goal.returns-clause-tell
returns-clause-tell c = tell_sends_ideal

pub returns-clause-judge : goal.returns-clause-judge
returns-clause-judge c = judge_sends_ideal

pub returns-clause-begin : goal.returns-clause-begin
returns-clause-begin c = begin_sends_ideal

pub returns-clause-scan : goal.returns-clause-scan
returns-clause-scan c = scan_sends_ideal

pub returns-clause-close : goal.returns-clause-close
returns-clause-close c = close_sends_ideal
