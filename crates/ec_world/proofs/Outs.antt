-- What comes out of steps, one after the other.
use Rattle.std.proofs.Common.{◌≡◌, ℕ, List, [], ◌∷◌, ◌++◌, None, Result, Ok, Err, refl, sym, ap, ◌∙◌}
use Rattle.std.specs.Prelude.{OnOk}
use Rattle.ec_base.specs.Tables.{Table, at_or, put}
use Rattle.ec_plain.specs.declared.call.Call.{Call}
use Rattle.ec_history.specs.declared.shown.Shown.{Shown}
use Rattle.ec_protocol.specs.declared.clerk.Out.{Out}
use Rattle.ec_protocol.specs.declared.clerk.Out.TheVariants as out
use Rattle.ec_protocol.specs.declared.world.World.{World}
use Rattle.ec_protocol.specs.World.{Moving, come_out, show_waits}
use Rattle.ec_world.specs.Calls.{call_begun}

pub come_out-append : (c : ℕ) (before outs : List Out) (m : Moving) → come_out c (before ++ outs) m ≡ come_out c outs (come_out c before m)
come_out-append c [] outs m = refl
come_out-append c (out.Send x ∷ os) outs m = come_out-append c os outs _
come_out-append c (out.Told ns ∷ os) outs m = come_out-append c os outs _
come_out-append c (out.Answer n a op ∷ os) outs m = come_out-append c os outs _
come_out-append c (out.OldBoot a ∷ os) outs m = come_out-append c os outs m

-- A call that began: it's under way, and waits or not, and then all comes out.
pub begun_shown : {A E : Type 0} (r : Result A E) (c n line : ℕ) (cl copy : Call) (before outs seen : List Out) (w : World) (lines : List Shown) (calls : Table (Table (ℕ × Call))) (waited first last : Moving) → copy ≡ cl → seen ≡ outs → calls ≡ put c (put n (line, copy) (at_or [] c w.calls)) w.calls → waited ≡ show_waits c n line cl seen (record { world = record w { calls = calls }; shown = lines; fault = None }) → first ≡ come_out c before waited → OnOk r (last ≡ come_out c outs first) → OnOk r (last ≡ call_begun c n line cl before outs (record { world = w; shown = lines; fault = None }))
begun_shown (Err f) c n line cl copy before outs seen w lines calls waited first last same saw added shows comes h = tt
begun_shown (Ok x) c n line cl copy before outs seen w lines calls waited first last same saw added shows comes h =
    let with_calls : Table (Table (ℕ × Call)) → Moving = λ t. record { world = record w { calls = t }; shown = lines; fault = None } in
    let with_call : Call → Moving = λ k. with_calls (put c (put n (line, k) (at_or [] c w.calls)) w.calls) in
    let under_way = ap with_calls added ∙ ap with_call same in
    h
    ∙ ap (come_out c outs) (comes ∙ ap (come_out c before) (shows ∙ ap (λ (os : List Out). show_waits c n line cl os (with_calls calls)) saw ∙ ap (show_waits c n line cl outs) under_way))
    ∙ sym (come_out-append c before outs (show_waits c n line cl outs (with_call cl)))
