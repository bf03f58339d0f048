use Rattle.std.proofs.Common.{◌≡◌, None}
use Rattle.std.specs.List.{list_all, find}
use Rattle.game.specs.Serving.{set_of, leads, serves, first_serving}
use Rattle.search.specs.Left.{numbers_left, Short}
use Rattle.search.proofs.serving.Given as goal

-- the choices that are left decide
abbrev pub invariant-choices : goal.invariant-choices
invariant-choices g l = record {
  next : (goal.iterator-choices g).can_next l.choice-iterator;
  ends : (goal.iterator-choices g).is_finite l.choice-iterator;
  decides : first_serving (g.G.Game.meaning l.game) l.group l.state (set_of l.inside) ≡ find (serves (g.G.Game.meaning l.game) l.group l.state (set_of l.inside)) (numbers_left l.choice-iterator);
  short : Short (numbers_left l.choice-iterator);
  none : l.found ≡ None;
}

-- the replies that are left decide
abbrev pub invariant-loop-reply : goal.invariant-loop-reply
invariant-loop-reply g l = record {
  next : (goal.iterator-loop-reply g).can_next l.reply-iterator;
  ends : (goal.iterator-loop-reply g).is_finite l.reply-iterator;
  decides : serves (g.G.Game.meaning l.game) l.group l.state (set_of l.inside) l.choice ≡ list_all (leads (g.G.Game.meaning l.game) l.state (set_of l.inside) l.choice) (numbers_left l.reply-iterator);
  short : Short (numbers_left l.reply-iterator);
}
