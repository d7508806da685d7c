use Rattle.std.proofs.Common.{◌≡◌, ℕ, ◌-◌, ◌<◌, length, slice_get, sym, ap, ◌∙◌, subst, arith}
use Rattle.trans_sys.specs.Systems.{TransitionSystem}
use Rattle.hybrid.proofs.HybridTurns.{reads_time, reads_jump}
use Rattle.hybrid.proofs.turns.HybridTurns.source.Goals as goal

pub returns-then-index-locations : goal.returns-then-index-locations
returns-then-index-locations c =
    let h = c.args.self.now in
    let below : c.args.index < length h.system.initial = subst (λ (s : TransitionSystem). c.args.index < length s.initial) c.system.ensures.value (omega (arith, c.locs-locations.ensures.value, c.if-index-locations.true)) in
    reads_time h c.system.ensures.kept c.args.index below

pub returns : goal.returns
returns c =
    let h = c.args.self.now in
    let places : c.locs-locations.result ≡ length h.system.initial = c.locs-locations.ensures.value ∙ ap (λ (s : TransitionSystem). length s.initial) c.system.ensures.value in
    let behind : ¬ (c.args.index < length h.system.initial) = λ l. omega (arith, l, places, c.if-index-locations.false) in
    let i = c.args.index - c.locs-locations.result in
    reads_jump h c.system.ensures.kept c.args.index i c.trans.result.now behind (ap (λ (n : ℕ). c.args.index - n) places) (ap (λ (s : TransitionSystem). slice_get s.transitions i) (sym c.system-2.ensures.value) ∙ c.trans.ensures.value)
