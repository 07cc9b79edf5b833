-- The opening: each session that is open ends, clerk by clerk.
use Rattle.std.proofs.Common.{◌≡◌, ◌+◌, ◌-◌, ◌<◌, ◌≤◌, ℕ, zero, suc, List, [], ◌∷◌, ◌++◌, Option, None, Some, refl, sym, ap, ◌∙◌, arith}
use Rattle.std.specs.Prelude.{Result, Ok, Err}
use Rattle.ec_base.specs.declared.counter.Counter.{Counter}
use Rattle.ec_sessions.specs.Slots.{run}
use Rattle.ec_durable.specs.declared.record.Record.{Record}
use Rattle.ec_durable.specs.declared.record.Record.TheVariants as record_of
use Rattle.ec_protocol.specs.declared.server.Server.{Server}
use Rattle.ec_protocol.specs.declared.world.World.{World}
use Rattle.ec_protocol.specs.Server.{Serving}
use Rattle.ec_protocol.specs.Server as machine
use Rattle.ec_protocol.specs.World.{end_each, clerks, opened, new_world}
use Rattle.ec_world.specs.Opening.{EndsBy, EndsOne}

-- what the ends make of the server and of the records
abbrev pub ends : List ℕ → Server → List Record → Server × List Record
ends [] s rs = (s, rs)
ends (c ∷ cs) s rs = elim (machine.end c s).rec [ None ↦ ends cs s rs | Some r ↦ ends cs (machine.end c s).server (rs ++ r ∷ []) ]

abbrev Agree : Serving × List Record → Server × List Record → Type 0
Agree p q = (p.0.server ≡ q.0) × (p.1 ≡ q.1)

-- by the record of the first end
abbrev each_by : ℕ → List ℕ → Serving → List Record → Option Record → Serving × List Record
each_by c cs t rs o = elim o [ None ↦ end_each cs t rs | Some r ↦ end_each cs (machine.end c t.server) (rs ++ r ∷ []) ]

abbrev ends_by : ℕ → List ℕ → Server → List Record → Option Record → Server × List Record
ends_by c cs s rs o = elim o [ None ↦ ends cs s rs | Some r ↦ ends cs (machine.end c s).server (rs ++ r ∷ []) ]

either : (c : ℕ) (cs : List ℕ) (t : Serving) (rs : List Record) (o : Option Record) → Agree (end_each cs t rs) (ends cs t.server rs)
    → ((r : Record) → Agree (end_each cs (machine.end c t.server) (rs ++ r ∷ [])) (ends cs (machine.end c t.server).server (rs ++ r ∷ []))) → Agree (each_by c cs t rs o) (ends_by c cs t.server rs o)
either c cs t rs None h k = h
either c cs t rs (Some r) h k = k r

ends_is : (cs : List ℕ) (t : Serving) (rs : List Record) → Agree (end_each cs t rs) (ends cs t.server rs)
ends_is [] t rs = (refl, refl)
ends_is (c ∷ cs) t rs = either c cs t rs (machine.end c t.server).rec (ends_is cs t rs) (λ r. ends_is cs (machine.end c t.server) (rs ++ r ∷ []))

-- one clerk's end
pub ends_one : (c : ℕ) (cs : List ℕ) (s : Server) (rs : List Record) (r : Record) → (machine.end c s).rec ≡ Some r → ends (c ∷ cs) s rs ≡ ends cs (machine.end c s).server (rs ++ r ∷ [])
ends_one c cs s rs r is = ap (λ (o : Option Record). elim o [ None ↦ ends cs s rs | Some r ↦ ends cs (machine.end c s).server (rs ++ r ∷ []) ]) is

pub ends_none : (c : ℕ) (cs : List ℕ) (s : Server) (rs : List Record) → (machine.end c s).rec ≡ None → ends (c ∷ cs) s rs ≡ ends cs s rs
ends_none c cs s rs is = ap (λ (o : Option Record). elim o [ None ↦ ends cs s rs | Some r ↦ ends cs (machine.end c s).server (rs ++ r ∷ []) ]) is

pub run_on : (n : ℕ) → n < 16 → run n (16 - n) ≡ n ∷ run (n + 1) (16 - (n + 1))
run_on n h = let e : 16 - n ≡ suc (16 - (n + 1)) = omega arith in ap (run n) e

pub opened_is : (t : Serving) (v : Server) (rs : List Record) → t.spent ≡ None → ends clerks t.server (record_of.Epoch t.server.durable.epoch ∷ []) ≡ (v, rs) → opened t ≡ Ok (new_world v rs)
opened_is t v rs none is =
    let q = ends_is clerks t (record_of.Epoch t.server.durable.epoch ∷ []) in
    let by : Option Counter → Result World Counter = λ o. elim o [ Some n ↦ Err n | None ↦ let q = end_each clerks t (record_of.Epoch t.server.durable.epoch ∷ []) in Ok (new_world (q.0).server q.1) ] in
    let to : Server × List Record → Result World Counter = λ p. Ok (new_world p.0 p.1) in
    let server : Server → Result World Counter = λ s. Ok (new_world s (end_each clerks t (record_of.Epoch t.server.durable.epoch ∷ [])).1) in
    let records : List Record → Result World Counter = λ rs. Ok (new_world (ends clerks t.server (record_of.Epoch t.server.durable.epoch ∷ [])).0 rs) in
    ap by none ∙ ap server q.0 ∙ ap records q.1 ∙ ap to is

-- the ends so far

pub ends_begin : (s t : Server) (rs ss : List Record) → s ≡ t → rs ≡ ss → ends (run 0 16) s rs ≡ ends clerks t ss
ends_begin s t rs ss same records = ap (λ (u : Server). ends clerks u rs) same ∙ ap (ends clerks t) records

pub ends_step : (n : ℕ) (old new : Server) (before now : List Record) (q : Server × List Record) → n < 16 → EndsOne n old new before now → ends (run n (16 - n)) old before ≡ q → ends (run (n + 1) (16 - (n + 1))) new now ≡ q
ends_step n old new before now q lt one is = sym (go (machine.end n old).rec refl one) ∙ sym (ap (λ (cs : List ℕ). ends cs old before) (run_on n lt)) ∙ is
  where
    go : (o : Option Record) → (machine.end n old).rec ≡ o → EndsBy o (machine.end n old) old new before now → ends (n ∷ run (n + 1) (16 - (n + 1))) old before ≡ ends (run (n + 1) (16 - (n + 1))) new now
    go None e h = ends_none n (run (n + 1) (16 - (n + 1))) old before e ∙ ap (λ (s : Server). ends (run (n + 1) (16 - (n + 1))) s before) (sym h.0) ∙ ap (ends (run (n + 1) (16 - (n + 1))) new) (sym h.1)
    go (Some r) e h = ends_one n (run (n + 1) (16 - (n + 1))) old before r e ∙ ap (λ (s : Server). ends (run (n + 1) (16 - (n + 1))) s (before ++ r ∷ [])) (sym h.0) ∙ ap (ends (run (n + 1) (16 - (n + 1))) new) (sym h.1)

pub ends_all : (n : ℕ) (v : Server) (rs : List Record) (q : Server × List Record) → 16 ≤ n → n ≤ 16 → ends (run n (16 - n)) v rs ≡ q → q ≡ (v, rs)
ends_all n v rs q low high is = sym is ∙ ap (λ (m : ℕ). ends (run m (16 - m)) v rs) (all n low high)
  where
    all : (n : ℕ) → 16 ≤ n → n ≤ 16 → n ≡ 16
    all n low high = omega (arith, low, high)
