-- Where no line crashes a clerk or ends a session, nothing is lost.
use Rattle.std.proofs.Common.{◌≡◌, ◌≤◌, ℕ, zero, suc, Bool, true, false, T, List, [], ◌∷◌, ◌++◌, length, take, refl, sym, ap, subst, ◌∙◌, arith}
use Rattle.std.specs.Prelude.{◌==◌, if◌then◌else◌, is_some}
use Rattle.std.specs.List.{filter, list_all}
use Rattle.ec_history.specs.History.{Each, History}
use Rattle.ec_history.specs.Placing.{EachLine, call_entry, line_entries, place, place_from, watch}
use Rattle.ec_history.specs.declared.shown.Shown.{Shown}
use Rattle.ec_history.specs.declared.shown.Shown.TheVariants as show
use Rattle.ec_protocol.specs.declared.script.Line.{Line}
use Rattle.ec_protocol.specs.declared.script.Line.TheVariants as line
use Rattle.ec_lawful.specs.Headline.{AreEndsAsked, Lines, Pieces, ends, joined, may_end}
use Rattle.ec_drill.specs.OfPromise.Spared.{IsNoLoss, spares}
use Rattle.ec_base.proofs.Bools.{and_parts-T}

-- Lines that may end no session.

may-end-none : (c : ℕ) (l : Line) → T (spares l) → may_end c l ≡ false
may-end-none c line.Comment s = refl
may-end-none c (line.Call d cl) s = refl
may-end-none c (line.Push d n) s = refl
may-end-none c (line.Cut d) s = refl
may-end-none c (line.Uncut d) s = refl
may-end-none c (line.Drop d k n) s = refl
may-end-none c (line.Repeat d k n) s = refl
may-end-none c (line.Deliver d k n) s = refl
may-end-none c (line.Resend d) s = refl
may-end-none c (line.Crash d) s = absurd s
may-end-none c (line.End d) s = absurd s
may-end-none c line.Stop s = refl
may-end-none c (line.Arm n k) s = refl
may-end-none c line.Restart s = refl

none-end : (c : ℕ) (ls : Lines) → T (list_all spares ls) → length (filter (may_end c) ls) ≡ 0
none-end c [] s = refl
none-end c (l ∷ ls) s =
    let parts = and_parts-T (spares l) (list_all spares ls) s in
    ap (λ b. length (if b then l ∷ filter (may_end c) ls else filter (may_end c) ls)) (may-end-none c l parts.0) ∙ none-end c ls parts.1

-- Lines that show no end.

abbrev is_end : Shown → Bool
is_end (show.Ended c ns) = true
is_end _ = false

own-end : (s : Shown) → ((c : ℕ) → ends c s ≡ false) → is_end s ≡ false
own-end (show.Ended d ns) n = absurd (true-not-false (sym (same d) ∙ n d))
  where
    same : (d : ℕ) → (d == d) ≡ true
    same d = grind arith

    true-not-false : true ≡ false → ⊥
    true-not-false e = absurd cc
own-end (show.Waits l c cl) n = refl
own-end (show.Answered l c cl a op) n = refl
own-end (show.Durable c ns) n = refl
own-end (show.Unseen c) n = refl
own-end (show.Told c ns) n = refl
own-end (show.Crashed c) n = refl
own-end show.Stopped n = refl
own-end show.Started n = refl
own-end show.Nothing n = refl
own-end show.Unsettled n = refl
own-end (show.Bad l k) n = refl
own-end (show.DiskBad k) n = refl
own-end (show.Limit k n) m = refl
own-end (show.Spent k) n = refl

-- a list of which nothing is chosen
unchosen : (P : Shown → Bool) (s : Shown) (ss : List Shown) → length (filter P (s ∷ ss)) ≡ 0 → (P s ≡ false) × (length (filter P ss) ≡ 0)
unchosen P s ss e = go (P s) refl e
  where
    go : (b : Bool) → P s ≡ b → length (if b then s ∷ filter P ss else filter P ss) ≡ 0 → (P s ≡ false) × (length (filter P ss) ≡ 0)
    go true is z = absurd (omega (arith, z))
    go false is z = (is, z)

none-ended : (ss : List Shown) → ((c : ℕ) → length (filter (ends c) ss) ≡ 0) → EachLine (λ s. is_end s ≡ false) ss
none-ended [] n = tt
none-ended (s ∷ ss) n = (own-end s (λ c. (unchosen (ends c) s ss (n c)).0), none-ended ss (λ c. (unchosen (ends c) s ss (n c)).1))

-- What they give.

all-two : (h k : History) → Each IsNoLoss h → Each IsNoLoss k → Each IsNoLoss (h ++ k)
all-two [] k p q = q
all-two (e ∷ h) k p q = (p.0, all-two h k p.1 q)

line-calls : (past : List Shown) (s : Shown) (rest : List Shown) → is_end s ≡ false → Each IsNoLoss (line_entries past s rest)
line-calls past (show.Ended d ns) rest e = absurd (never e)
  where
    never : true ≡ false → ⊥
    never f = absurd cc
line-calls past (show.Answered l c cl a op) rest e = go (is_some (watch c past).untold)
  where
    go : (b : Bool) → Each IsNoLoss (if b then [] else call_entry past (show.Answered l c cl a op))
    go true = tt
    go false = (tt, tt)
line-calls past (show.Waits l c cl) rest e = tt
line-calls past (show.Durable c ns) rest e = tt
line-calls past (show.Unseen c) rest e = tt
line-calls past (show.Told c ns) rest e = tt
line-calls past (show.Crashed c) rest e = tt
line-calls past show.Stopped rest e = tt
line-calls past show.Started rest e = tt
line-calls past show.Nothing rest e = tt
line-calls past show.Unsettled rest e = tt
line-calls past (show.Bad l k) rest e = tt
line-calls past (show.DiskBad k) rest e = tt
line-calls past (show.Limit k n) rest e = tt
line-calls past (show.Spent k) rest e = tt

calls-alone : (past ss : List Shown) → EachLine (λ s. is_end s ≡ false) ss → Each IsNoLoss (place_from past ss)
calls-alone past [] n = tt
calls-alone past (s ∷ ss) n = all-two (line_entries past s ss) (place_from (past ++ s ∷ []) ss) (line-calls past s ss n.0) (calls-alone (past ++ s ∷ []) ss n.1)

-- So nothing is lost in pieces that have no more ends than their lines that may end a session, of which there are none.
pub lose-nothing : (lines : Lines) (pieces : Pieces) → AreEndsAsked lines pieces → T (list_all spares (take (length pieces) lines)) → Each IsNoLoss (place (joined pieces))
lose-nothing lines pieces asked s = calls-alone [] (joined pieces) (none-ended (joined pieces) none)
  where
    all : (k : ℕ) (ps : Pieces) → length ps ≤ k → take k ps ≡ ps
    all zero [] le = refl
    all zero (p ∷ ps) le = absurd (omega (arith, le))
    all (suc k) [] le = refl
    all (suc k) (p ∷ ps) le = ap (λ qs. p ∷ qs) (all k ps (omega (arith, le)))

    none : (c : ℕ) → length (filter (ends c) (joined pieces)) ≡ 0
    none c = omega (arith, subst (λ ps. length (filter (ends c) (joined ps)) ≤ length (filter (may_end c) (take (length pieces) lines))) (all (length pieces) pieces (omega arith)) (asked c (length pieces) (omega arith)), none-end c (take (length pieces) lines) s)
