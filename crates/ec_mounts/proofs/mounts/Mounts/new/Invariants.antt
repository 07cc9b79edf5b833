use Rattle.std.proofs.Common.{◌≡◌, ◌++◌, length, map}
use Rattle.std.specs.List.{All}
use Rattle.std.specs.Vec.Iter.{into_iter_items, into_iter_len}
use Rattle.ec_lock.specs.PassViews.{IsPassOf}
use Rattle.ec_mounts.specs.Mounts.{AreSeated}
use Rattle.ec_mounts.proofs.mounts.Mounts.new.Given as goal

abbrev pub invariant-list : goal.invariant-list
invariant-list g l =
    (l.table.items ++ map (λ one. one.0) (into_iter_items l.one-iterator) ≡ map (λ one. one.0) l.fn.list.items)
    × (l.clerks.items ++ map (λ one. one.1) (into_iter_items l.one-iterator) ≡ map (λ one. one.1) l.fn.list.items)
    × (map (λ p. p.pass) l.parts.items ++ map (λ one. one.2) (into_iter_items l.one-iterator) ≡ map (λ one. one.2) l.fn.list.items)
    × (into_iter_len l.one-iterator ≡ length (into_iter_items l.one-iterator))
    × All (λ one. IsPassOf one.1.lock one.2) (into_iter_items l.one-iterator)
    × AreSeated (map (λ c. c.lock) l.clerks.items) (map (λ p. p.pass) l.parts.items)
    × (length l.parts.items ≡ length l.table.items)
