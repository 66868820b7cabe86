use Rattle.std.proofs.Common.{◌-◌, ◌<◌, ◌≤◌, length, get_or}
use Rattle.class_world.proofs.lookups.numbers.member_of.Given as goal

-- the member's class is from low on, before high
abbrev pub invariant-loop-low : goal.invariant-loop-low
invariant-loop-low l = record {
  order : l.low < l.high;
  within : l.high ≤ length l.firsts;
  reached : get_or l.firsts l.low 0 ≤ l.number;
  passed : l.high < length l.firsts → l.number < get_or l.firsts l.high 0;
}

abbrev pub decreases-loop-low : goal.decreases-loop-low
decreases-loop-low l = l.high - l.low
