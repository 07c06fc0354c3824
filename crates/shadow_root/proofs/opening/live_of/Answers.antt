use Rattle.std.proofs.Common.{◌≡◌, ◌∙◌, ap, sym, Ok}
use Rattle.shadow_root.specs.Opening.{side_of}
use Rattle.shadow_root.specs.declared.opening.Side.TheVariants.{First, Second}
use Rattle.shadow_root.specs.declared.opening.Side.{Side}
use Rattle.shadow_root.proofs.Opened.{open_on, generation_on, slots_refused, leads_at_ok, refused_at_err, live_at_ok, none_wins, only_on}
use Rattle.shadow_root.proofs.opening.live_of.Goals as goal

pub returns-in-Err-clause-fault : goal.returns-in-Err-clause-fault
returns-in-Err-clause-fault c = λ file has.
    slots_refused c.args.first.now c.args.second.now c.args.limit c.args.size file has c.in-Err.fault
    (rw (← c.read_gate.ensures.open, ← c.read_gate-2.ensures.open, ← c.read_gate.ensures.generation, ← c.read_gate-2.ensures.generation) (sym c.in-Err.ensures))

pub returns-in-Ok-First-clause-ok : goal.returns-in-Ok-First-clause-ok
returns-in-Ok-First-clause-ok c =
    let wins : side_of (open_on c.args.first.now) (open_on c.args.second.now) (generation_on c.args.first.now) (generation_on c.args.second.now) ≡ Ok c.in-Ok-First.field-0 =
    rw (← c.read_gate.ensures.open, ← c.read_gate-2.ensures.open, ← c.read_gate.ensures.generation, ← c.read_gate-2.ensures.generation) (sym c.in-Ok-First.ensures) in
    leads_at_ok c.args.first.now c.args.second.now c.args.limit c.args.size c.in-Ok-First.field-0 wins First c.in-Ok-First.field-0-is c.live_in.result c.live_in.ensures.spelled c.live_in.ensures.valid

pub returns-in-Ok-First-clause-fault : goal.returns-in-Ok-First-clause-fault
returns-in-Ok-First-clause-fault c =
    let wins : side_of (open_on c.args.first.now) (open_on c.args.second.now) (generation_on c.args.first.now) (generation_on c.args.second.now) ≡ Ok c.in-Ok-First.field-0 =
    rw (← c.read_gate.ensures.open, ← c.read_gate-2.ensures.open, ← c.read_gate.ensures.generation, ← c.read_gate-2.ensures.generation) (sym c.in-Ok-First.ensures) in
    refused_at_err c.args.first.now c.args.second.now c.args.limit c.args.size c.in-Ok-First.field-0 wins First c.in-Ok-First.field-0-is c.live_in.result c.live_in.ensures.fault

pub returns-in-Ok-Second-clause-ok : goal.returns-in-Ok-Second-clause-ok
returns-in-Ok-Second-clause-ok c =
    let wins : side_of (open_on c.args.first.now) (open_on c.args.second.now) (generation_on c.args.first.now) (generation_on c.args.second.now) ≡ Ok c.in-Ok-Second.field-0 =
    rw (← c.read_gate.ensures.open, ← c.read_gate-2.ensures.open, ← c.read_gate.ensures.generation, ← c.read_gate-2.ensures.generation) (sym c.in-Ok-Second.ensures) in
    leads_at_ok c.args.first.now c.args.second.now c.args.limit c.args.size c.in-Ok-Second.field-0 wins Second c.in-Ok-Second.field-0-is c.live_in-in-Ok-Second.result c.live_in-in-Ok-Second.ensures.spelled c.live_in-in-Ok-Second.ensures.valid

pub returns-in-Ok-Second-clause-fault : goal.returns-in-Ok-Second-clause-fault
returns-in-Ok-Second-clause-fault c =
    let wins : side_of (open_on c.args.first.now) (open_on c.args.second.now) (generation_on c.args.first.now) (generation_on c.args.second.now) ≡ Ok c.in-Ok-Second.field-0 =
    rw (← c.read_gate.ensures.open, ← c.read_gate-2.ensures.open, ← c.read_gate.ensures.generation, ← c.read_gate-2.ensures.generation) (sym c.in-Ok-Second.ensures) in
    refused_at_err c.args.first.now c.args.second.now c.args.limit c.args.size c.in-Ok-Second.field-0 wins Second c.in-Ok-Second.field-0-is c.live_in-in-Ok-Second.result c.live_in-in-Ok-Second.ensures.fault

pub returns-in-Err-clause-only : goal.returns-in-Err-clause-only
returns-in-Err-clause-only c = λ live is.
    absurd (none_wins c.args.first.now c.args.second.now c.args.limit c.args.size live c.in-Err.fault
    (rw (← c.read_gate.ensures.open, ← c.read_gate-2.ensures.open, ← c.read_gate.ensures.generation, ← c.read_gate-2.ensures.generation) (sym c.in-Err.ensures)) is)

pub returns-in-Ok-First-clause-live : goal.returns-in-Ok-First-clause-live
returns-in-Ok-First-clause-live c =
    let wins : side_of (open_on c.args.first.now) (open_on c.args.second.now) (generation_on c.args.first.now) (generation_on c.args.second.now) ≡ Ok c.in-Ok-First.field-0 =
    rw (← c.read_gate.ensures.open, ← c.read_gate-2.ensures.open, ← c.read_gate.ensures.generation, ← c.read_gate-2.ensures.generation) (sym c.in-Ok-First.ensures) in
    live_at_ok c.args.first.now c.args.second.now c.args.limit c.args.size First (wins ∙ ap (λ (s : Side). Ok s) c.in-Ok-First.field-0-is) c.live_in.result c.live_in.ensures.spelled c.live_in.ensures.valid

pub returns-in-Ok-First-clause-only : goal.returns-in-Ok-First-clause-only
returns-in-Ok-First-clause-only c =
    let wins : side_of (open_on c.args.first.now) (open_on c.args.second.now) (generation_on c.args.first.now) (generation_on c.args.second.now) ≡ Ok c.in-Ok-First.field-0 =
    rw (← c.read_gate.ensures.open, ← c.read_gate-2.ensures.open, ← c.read_gate.ensures.generation, ← c.read_gate-2.ensures.generation) (sym c.in-Ok-First.ensures) in
    only_on c.args.first.now c.args.second.now c.args.limit c.args.size First (wins ∙ ap (λ (s : Side). Ok s) c.in-Ok-First.field-0-is) c.live_in.result c.live_in.ensures.only

pub returns-in-Ok-Second-clause-live : goal.returns-in-Ok-Second-clause-live
returns-in-Ok-Second-clause-live c =
    let wins : side_of (open_on c.args.first.now) (open_on c.args.second.now) (generation_on c.args.first.now) (generation_on c.args.second.now) ≡ Ok c.in-Ok-Second.field-0 =
    rw (← c.read_gate.ensures.open, ← c.read_gate-2.ensures.open, ← c.read_gate.ensures.generation, ← c.read_gate-2.ensures.generation) (sym c.in-Ok-Second.ensures) in
    live_at_ok c.args.first.now c.args.second.now c.args.limit c.args.size Second (wins ∙ ap (λ (s : Side). Ok s) c.in-Ok-Second.field-0-is) c.live_in-in-Ok-Second.result c.live_in-in-Ok-Second.ensures.spelled c.live_in-in-Ok-Second.ensures.valid

pub returns-in-Ok-Second-clause-only : goal.returns-in-Ok-Second-clause-only
returns-in-Ok-Second-clause-only c =
    let wins : side_of (open_on c.args.first.now) (open_on c.args.second.now) (generation_on c.args.first.now) (generation_on c.args.second.now) ≡ Ok c.in-Ok-Second.field-0 =
    rw (← c.read_gate.ensures.open, ← c.read_gate-2.ensures.open, ← c.read_gate.ensures.generation, ← c.read_gate-2.ensures.generation) (sym c.in-Ok-Second.ensures) in
    only_on c.args.first.now c.args.second.now c.args.limit c.args.size Second (wins ∙ ap (λ (s : Side). Ok s) c.in-Ok-Second.field-0-is) c.live_in-in-Ok-Second.result c.live_in-in-Ok-Second.ensures.only
