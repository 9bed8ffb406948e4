-- What is left of the replay gives the whole: one law takes a turn of the loop, one ends it.
use Rattle.std.proofs.Common.{◌%◌, ◌≡◌, length}
use Rattle.gmch.specs.Machine.{machine}
use Rattle.gmch.specs.Map.{map_of}
use Rattle.replay.proofs.Loop.{rest_at}
use Rattle.replay.proofs.replay.Given as goal

abbrev pub invariant-loop-at : goal.invariant-loop-at
invariant-loop-at l = record {
  whole : l.at % 16 ≡ 0;
  table : length l.table ≡ 16384;
  map : l.m ≡ map_of l.b l.s;
  rest : rest_at l.b l.records l.at (machine l.s l.table l.memory l.display) l.answers ≡ rest_at l.b l.records 0 (machine l.initial.s l.initial.table l.initial.memory l.initial.display) l.initial.answers;
}
