-- The scripts that the program makes are plain.
use Rattle.std.proofs.Common.{◌≡◌, ◌≤◌, ◌+◌, ◌*◌, ℕ, Bool, List, [], ◌∷◌, length, Some, true, false, refl, sym, ap, subst, ◌∙◌, arith}
use Rattle.ec_base.specs.Tables.{once}
use Rattle.ec_history.specs.History.{Each}
use Rattle.ec_plain.specs.declared.call.Call.{Call}
use Rattle.ec_plain.specs.declared.call.Call.TheVariants as call
use Rattle.ec_volume.specs.Volume.{Images}
use Rattle.ec_script.specs.OfGenerator.Generator.{script_of}
use Rattle.ec_script.specs.Lines.{lines_of}
use Rattle.ec_script.specs.declared.line.Line.TheVariants as line
use Rattle.ec_script.proofs.LinedOnce.{line_once}
use Rattle.ec_protocol.specs.Drill.{Read, reads, unfit, named_in}
use Rattle.ec_protocol.specs.declared.script.Line.{Line as MachineLine}
use Rattle.ec_protocol.specs.declared.script.Line.TheVariants as machine
use Rattle.ec_lawful.specs.Creates.{creates}
use Rattle.ec_lawful.specs.Drills.{lines_in}
use Rattle.ec_machine_laws.specs.Answers.{Plainly}
use Rattle.ec_complete.specs.Complete.{IsFaultlessRead}
use Rattle.ec_complete.specs.PlainScripts.{ArePushed, IsPlainScript, behind_line, makes}
use Rattle.ec_complete.specs.Rooms as rooms
use Rattle.ec_drill.specs.Limits.{most_objects}
use Rattle.ec_drill.specs.Script.{AreRead, machine_line}
use Rattle.ec_drill.specs.OfPromise.Completes.{GivesPlainScript}
use Rattle.ec_drill.proofs.OfPromise.Named.{few-named}
use Rattle.ec_script.specs.OfMade.Made as made
use Rattle.ec_script.proofs.OfMade.Made.{made-lines-call}
use Rattle.ec_echo.specs.Made.{made_lines}
use Rattle.ec_base.specs.Bools.{one_if, one_if as made_one_if}

abbrev IsCall : MachineLine → Type 0
IsCall (machine.Call c cl) = Unit {0}
IsCall _ = ⊥

record AreCalls (rs : List Read) (n : ℕ) : Type 0 where
  faultless : Each IsFaultlessRead rs
  calls : Each IsCall (lines_in rs)
  room : makes (lines_in rs) ≡ n

-- both say which calls make an object
same-makes : (cl : Call) → creates cl ≡ made.makes cl
same-makes (call.Mkdir path) = refl
same-makes (call.Create path) = refl
same-makes _ = refl

same-one : (b : Bool) → one_if b ≡ made_one_if b
same-one true = refl
same-one false = refl

one-more : (m : MachineLine) (column : ℕ) (rs : List Read) (b : Bool) (n : ℕ) (c : ℕ) (cl : Call) → m ≡ machine.Call c cl → made.makes cl ≡ b → AreCalls rs n → AreCalls (reads m column ∷ rs) (made_one_if b + n)
one-more m column rs b n c cl is so a =
    subst (λ l. AreCalls (reads l column ∷ rs) (made_one_if b + n)) (sym is) (record {
      faultless = (tt, a.faultless);
      calls = (tt, a.calls);
      room = ap (λ x. one_if x + makes (lines_in rs)) (same-makes cl ∙ so) ∙ ap (λ k. k + makes (lines_in rs)) (same-one b) ∙ ap (λ k. made_one_if b + k) a.room;
    })

read-so : (ts : List (List ℕ)) (n : ℕ) (rs : List Read) → made.AreCalling ts n → AreRead ts rs → AreCalls rs n
read-so [] n [] m a = subst (AreCalls []) (sym m) (record { faultless = tt; calls = tt; room = refl })
read-so [] n (r ∷ rs) m a = absurd a
read-so (t ∷ ts) n [] m a = absurd a
read-so (t ∷ ts) n (unfit column ∷ rs) m a = absurd (a.0.0 (line.Call (m.2).clerk (m.2).calls) (m.2).is)
read-so (t ∷ ts) n (reads l column ∷ rs) m a =
    subst (AreCalls (reads l column ∷ rs)) (sym m.4)
    (one-more l column rs m.0 m.1 (m.2).clerk (m.2).calls (a.0.2 ∙ ap machine_line (line_once t a.0.0 (line.Call (m.2).clerk (m.2).calls) a.0.1 (m.2).is)) (m.2).so (read-so ts m.1 rs m.3 a.1))

-- no line pushes
none-pushed : (v : Images) (top number : ℕ) (s : Plainly) (ls : List MachineLine) → Each IsCall ls → ArePushed v top number s ls
none-pushed v top number s [] a = tt
none-pushed v top number s (machine.Call c cl ∷ ls) a = (tt, none-pushed v top (number + 1) (behind_line v top number (machine.Call c cl) s) ls a.1)
none-pushed v top number s (_ ∷ ls) a = absurd a.0

module _ (number : ℕ) where
  called : made.AreCalling (lines_of (script_of number made_lines)) 500
  called = (made-lines-call number made_lines (omega arith)).2

  plain : (rs : List Read) → AreRead (lines_of (script_of number made_lines)) rs → IsPlainScript most_objects rs
  plain rs read =
      let all = read-so (lines_of (script_of number made_lines)) 500 rs called read in
      record {
        faultless = all.faultless;
        pushes = none-pushed _ 1 1 _ (lines_in rs) all.calls;
        room = enough (makes (lines_in rs)) (length (once (named_in rs))) all.room (few-named (lines_of (script_of number made_lines)) rs read);
      }
    where
      enough : (m n : ℕ) → m ≡ 500 → n ≤ 16 → m + 16 * n + 1 ≤ 1024
      enough m n is few = omega (arith, is, few)

  pub made-plain : GivesPlainScript most_objects (Some (script_of number made_lines))
  made-plain =
      let made = made-lines-call number made_lines (omega arith) in
      record {
        script = script_of number made_lines;
        gives = refl;
        few_bytes = few (length (script_of number made_lines)) made.0;
        few_lines = subst (λ n. n ≤ 65536) (sym made.1) (omega arith);
        plain = plain;
      }
    where
      few : (n : ℕ) → n ≤ 50 * 2000 → n ≤ 1048576
      few n le = omega (arith, le)
