-- Lemmas on the definitions of `Placing` that several proofs cite.
use Rattle.std.proofs.Common.{ℕ, [], ◌++◌, Option, List, ◌∷◌, ◌≡◌, refl}
use Rattle.ec_volume.specs.Update.{listed}
use Rattle.ec_history.specs.Placing.{or_else, EachLine, watch_from, watch_next}
use Rattle.ec_history.specs.declared.watch.Watch.{Watch}
use Rattle.ec_history.specs.declared.shown.Shown.{Shown}

-- The watch behind an answer, by what was untold: the answer shows a session; or one is open; or not yet.
abbrev pub showing : Watch → Option ℕ → Watch
showing w op = record w { open_start = or_else w.open_start w.starts; undurable = w.early ++ (w.undurable ++ listed op); early = [] }

pub each-turn : (P Q : Shown → Type 0) → ((s : Shown) → P s → Q s) → (ss : List Shown) → EachLine P ss → EachLine Q ss
each-turn P Q f [] e = tt
each-turn P Q f (s ∷ ss) e = (f s e.0, each-turn P Q f ss e.1)

pub watch-push : (c : ℕ) (w : Watch) (ss : List Shown) (s : Shown) → watch_from c w (ss ++ s ∷ []) ≡ watch_next c (watch_from c w ss) s
watch-push c w [] s = refl
watch-push c w (r ∷ ss) s = watch-push c (watch_next c w r) ss s
