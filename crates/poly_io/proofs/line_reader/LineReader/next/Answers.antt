use Rattle.std.proofs.Common.{ℕ, List, [], refl, inl, false, ◌≡◌, ◌≤◌, ◌<◌, ◌-◌, ◌++◌, length, take, drop, true, ap, sym, ◌∙◌, arith, inr, length-drop, min, subst}
use Rattle.std.specs.Prelude.{Contains}
use Rattle.std.specs.Io.KnownBytes.{IsAtEnd}
use Rattle.std.proofs.lemmas.Bool.{false≢true}
use Rattle.std.proofs.lemmas.List.{length-take}
use Rattle.std.proofs.lemmas.List.Elements.{All-nil}
use Rattle.poly_io.specs.Cut.{is_feed, LacksFeed}
use Rattle.poly_io.specs.LineReading.{Reading}
use Rattle.poly_io.proofs.Known.{prepend_known-then, prepend_known-nil}
use Rattle.poly_io.proofs.CutLaws.{lacks_found, kept_lacks}
use Rattle.poly_io.proofs.NextLaws.{follows_start, too_long_given, line_given, rest_given, end_given, failed_given, first_stopped, first_fed, unread_over, not_over, none_between, fill_smaller, follows_fill, no_feed, was_few, ended_more, cuts_told}
use Rattle.poly_io.specs.declared.line_reader.LineAns.TheVariants.{Line, End, Failed, TooLong}
use Rattle.poly_io.specs.declared.reading.ReadAns.TheVariants.{Failed as ReadFailed}
use Rattle.poly_io.proofs.line_reader.LineReader.next.Goals as goal

pub loop-self-init : goal.loop-self-init
loop-self-init g c =
    ([], sym (prepend_known-nil (g.S.Source.left c.args.source.now)), follows_start c.args.self.now, c.requires, omega arith, inl (refl, refl), omega arith, All-nil (λ (b : ℕ). is_feed b ≡ false))

pub returns-then-self-gt-INPUT_LIMIT-clause-given : goal.returns-then-self-gt-INPUT_LIMIT-clause-given
returns-then-self-gt-INPUT_LIMIT-clause-given g c =
    let h = c.loop-self.invariant in
    (h.0, h.1, record { taken = h.2.taken; says = too_long_given h.0 c.args.self.now c.loop-self.self h.2 })

pub returns-in-Some-clause-given : goal.returns-in-Some-clause-given
returns-in-Some-clause-given g c =
    let h = c.loop-self.invariant in
    let new = c.take_line.new.self in (
      h.0,
      h.1,
      record {
        taken = c.take_line.ensures.taken ∙ h.2.taken;
        says = line_given h.0 c.args.self.now c.loop-self.self new c.in-Some.at h.2 c.in-Some.ensures c.take_line.ensures.line c.take_line.ensures.pending;
      },
    )

pub returns-then-self-clause-given : goal.returns-then-self-clause-given
returns-then-self-clause-given g c =
    let h = c.loop-self.invariant in
    let s = c.self.inside in
    let new = c.take_rest.new.self in
    let mid = c.loop-self.self in
    let pending : take (s.end - s.start) (drop s.start s.bytes.items) ≡ mid.pending = ap (λ (r : Reading). r.pending) c.self.view_is in
    let ended : mid.ended ≡ true = ap (λ (r : Reading). r.ended) (sym c.self.view_is) ∙ c.if-self.true in
    let some : 0 < length mid.pending =
    omega (arith, ap length pending, length-take (s.end - s.start) (drop s.start s.bytes.items), length-drop s.start s.bytes.items, c.self.invariant, s.bytes.ok, c.if-self-2.false) in (
      h.0,
      h.1,
      record {
        taken = c.take_rest.ensures.taken ∙ h.2.taken;
        says = rest_given h.0 c.args.self.now mid new h.2 (lacks_found mid.pending c.in_default.ensures) some (c.take_rest.ensures.ended ∙ ended) c.take_rest.ensures.line c.take_rest.ensures.pending;
      },
    )

pub returns-in-Failed-clause-given : goal.returns-in-Failed-clause-given
returns-in-Failed-clause-given g c =
    let h = c.loop-self.invariant in
    let f = c.in-Failed.ensures.filled in
    let left = g.S.Source.left in
    let mid = c.loop-self.self in
    let going : mid.ended ≡ false = ap (λ (r : Reading). r.ended) (sym c.self.view_is) ∙ c.if-self.false in
    let lacks : LacksFeed mid.pending = lacks_found mid.pending c.in_default.ensures in (
      h.0 ++ f.0,
      prepend_known-then h.0 f.0 (left c.args.source.now) (left c.loop-self.source) (left c.fill.new.source) h.1 f.1,
      record {
        taken = (follows_fill h.0 f.0 c.args.self.now mid c.fill.new.self _ h.2 lacks going f.2).taken;
        says = failed_given h.0 f.0 c.args.self.now mid c.fill.new.self h.2 lacks going f.2;
      },
    )

pub returns-in-Failed-clause-unread : goal.returns-in-Failed-clause-unread
returns-in-Failed-clause-unread g c few some =
    let h = c.loop-self.invariant in
    absurd (no_feed c.args.self.now c.loop-self.self c.args.source.now c.loop-self.source h.5 (lacks_found c.loop-self.self.pending c.in_default.ensures) some)

pub loop-self-preserved : goal.loop-self-preserved
loop-self-preserved g c =
    let h = c.loop-self.invariant in
    let f = c.fill.ensures.filled in
    let left = g.S.Source.left in
    let mid = c.loop-self.self in
    let new = c.fill.new.self in
    let lacks : LacksFeed mid.pending = lacks_found mid.pending c.in_default.ensures in
    let few : mid.taken ≤ 67108864 = subst (λ (t : ℕ). t ≤ 67108864) (ap (λ (r : Reading). r.taken) c.self.view_is) c.if-self-gt-INPUT_LIMIT.false in
    let going : mid.ended ≡ false = ap (λ (r : Reading). r.ended) (sym c.self.view_is) ∙ c.if-self.false in
    let s = c.self.inside in
    let pending : take (s.end - s.start) (drop s.start s.bytes.items) ≡ mid.pending = ap (λ (r : Reading). r.pending) c.self.view_is in
    let size : length mid.pending ≡ s.end - s.start =
    omega (arith, ap length pending, length-take (s.end - s.start) (drop s.start s.bytes.items), length-drop s.start s.bytes.items, c.self.invariant, s.bytes.ok) in
    let kept = kept_lacks mid.pending f.0 c.min-seen.result lacks (c.min-seen.ensures ∙ ap (λ (k : ℕ). min k 65537) (sym size)) in
    let seen = subst (λ (x : List ℕ). (c.min-seen.result ≤ length x) × LacksFeed (take c.min-seen.result x)) (sym f.2.pending) kept in (
      h.0 ++ f.0,
      prepend_known-then h.0 f.0 (left c.args.source.now) (left c.loop-self.source) (left c.fill.new.source) h.1 f.1,
      follows_fill h.0 f.0 c.args.self.now mid new c.fill.result h.2 lacks going f.2,
      ended_more mid.ended new.ended c.fill.result (IsAtEnd (left c.fill.new.source)) f.2.ended going c.fill.ensures.ended,
      omega (arith, h.4, c.fill.ensures.counted),
      inr (
        was_few c.args.self.now mid c.args.source.now c.loop-self.source h.5 few,
        λ (some : Contains c.args.self.now.pending 10). no_feed c.args.self.now mid c.args.source.now c.loop-self.source h.5 lacks some,
      ),
      seen.0,
      seen.1,
    )

pub returns-in-Some-clause-cuts : goal.returns-in-Some-clause-cuts
returns-in-Some-clause-cuts g c =
    let h = returns-in-Some-clause-given g c in
    let left = g.S.Source.left in
    let new = c.take_line.new.self in
    cuts_told h.0 c.args.self.now new (left c.args.source.now) (left c.loop-self.source) Line h.1 h.2.says
    (λ (e : new.ended ≡ true). c.loop-self.invariant.3 (sym c.take_line.ensures.ended ∙ e))

pub returns-then-self-clause-cuts : goal.returns-then-self-clause-cuts
returns-then-self-clause-cuts g c =
    let h = returns-then-self-clause-given g c in
    let left = g.S.Source.left in
    let new = c.take_rest.new.self in
    cuts_told h.0 c.args.self.now new (left c.args.source.now) (left c.loop-self.source) Line h.1 h.2.says
    (λ (e : new.ended ≡ true). c.loop-self.invariant.3 (sym c.take_rest.ensures.ended ∙ e))

pub returns-in-Failed-clause-cuts : goal.returns-in-Failed-clause-cuts
returns-in-Failed-clause-cuts g c =
    let h = returns-in-Failed-clause-given g c in
    let left = g.S.Source.left in
    let mid = c.loop-self.self in
    let new = c.fill.new.self in
    let going : mid.ended ≡ false = ap (λ (r : Reading). r.ended) (sym c.self.view_is) ∙ c.if-self.false in
    cuts_told h.0 c.args.self.now new (left c.args.source.now) (left c.fill.new.source) Failed h.1 h.2.says
    (ended_more mid.ended new.ended ReadFailed (IsAtEnd (left c.fill.new.source)) c.in-Failed.ensures.filled.2.ended going c.in-Failed.ensures.ended)

pub returns-then-self-gt-INPUT_LIMIT-clause-cuts : goal.returns-then-self-gt-INPUT_LIMIT-clause-cuts
returns-then-self-gt-INPUT_LIMIT-clause-cuts g c =
    let h = returns-then-self-gt-INPUT_LIMIT-clause-given g c in
    let left = g.S.Source.left in
    cuts_told h.0 c.args.self.now c.loop-self.self (left c.args.source.now) (left c.loop-self.source) TooLong h.1 h.2.says c.loop-self.invariant.3

pub returns-then-self-gt-INPUT_LIMIT-clause-stopped : goal.returns-then-self-gt-INPUT_LIMIT-clause-stopped
returns-then-self-gt-INPUT_LIMIT-clause-stopped g c = first_stopped c.args.self.now c.loop-self.self _ _ c.loop-self.invariant.5

pub returns-then-self-gt-INPUT_LIMIT-clause-unread : goal.returns-then-self-gt-INPUT_LIMIT-clause-unread
returns-then-self-gt-INPUT_LIMIT-clause-unread g c few some =
    absurd (unread_over c.args.self.now c.loop-self.self c.args.source.now c.loop-self.source c.loop-self.invariant.5 (subst (λ (t : ℕ). 67108864 < t) (ap (λ (r : Reading). r.taken) c.self.view_is) c.if-self-gt-INPUT_LIMIT.true) few some)

pub returns-then-self-gt-INPUT_LIMIT-clause-still : goal.returns-then-self-gt-INPUT_LIMIT-clause-still
returns-then-self-gt-INPUT_LIMIT-clause-still g c = c.loop-self.invariant.2.still

pub returns-in-Some-clause-stopped : goal.returns-in-Some-clause-stopped
returns-in-Some-clause-stopped g c = first_stopped c.args.self.now c.loop-self.self _ _ c.loop-self.invariant.5

pub returns-in-Some-clause-unread : goal.returns-in-Some-clause-unread
returns-in-Some-clause-unread g c few some = (refl, (first_fed c.args.self.now c.loop-self.self c.args.source.now c.loop-self.source c.loop-self.invariant.5 some).1)

pub returns-in-Some-clause-still : goal.returns-in-Some-clause-still
returns-in-Some-clause-still g c e = let h = c.loop-self.invariant.2.still e in (c.take_line.ensures.ended ∙ h.0, c.take_line.ensures.taken ∙ h.1)

pub returns-then-self-2-clause-given : goal.returns-then-self-2-clause-given
returns-then-self-2-clause-given g c =
    let h = c.loop-self.invariant in
    let s = c.self.inside in
    let mid = c.loop-self.self in
    let pending : take (s.end - s.start) (drop s.start s.bytes.items) ≡ mid.pending = ap (λ (r : Reading). r.pending) c.self.view_is in
    (h.0, h.1, record { taken = h.2.taken; says = end_given h.0 c.args.self.now mid h.2 (ap (λ (r : Reading). r.ended) (sym c.self.view_is) ∙ c.if-self.true) (none_between s.start s.end (drop s.start s.bytes.items) mid.pending pending c.if-self-2.true) })

pub returns-then-self-2-clause-cuts : goal.returns-then-self-2-clause-cuts
returns-then-self-2-clause-cuts g c =
    let h = returns-then-self-2-clause-given g c in
    let left = g.S.Source.left in
    cuts_told h.0 c.args.self.now c.loop-self.self (left c.args.source.now) (left c.loop-self.source) End h.1 h.2.says c.loop-self.invariant.3

pub returns-then-self-2-clause-stopped : goal.returns-then-self-2-clause-stopped
returns-then-self-2-clause-stopped g c = first_stopped c.args.self.now c.loop-self.self _ _ c.loop-self.invariant.5

pub returns-then-self-2-clause-unread : goal.returns-then-self-2-clause-unread
returns-then-self-2-clause-unread g c few some =
    absurd (no_feed c.args.self.now c.loop-self.self c.args.source.now c.loop-self.source c.loop-self.invariant.5 (lacks_found c.loop-self.self.pending c.in_default.ensures) some)

pub returns-then-self-clause-stopped : goal.returns-then-self-clause-stopped
returns-then-self-clause-stopped g c = first_stopped c.args.self.now c.loop-self.self _ _ c.loop-self.invariant.5

pub returns-then-self-clause-unread : goal.returns-then-self-clause-unread
returns-then-self-clause-unread g c few some =
    absurd (no_feed c.args.self.now c.loop-self.self c.args.source.now c.loop-self.source c.loop-self.invariant.5 (lacks_found c.loop-self.self.pending c.in_default.ensures) some)

pub returns-then-self-clause-still : goal.returns-then-self-clause-still
returns-then-self-clause-still g c e = let h = c.loop-self.invariant.2.still e in (c.take_rest.ensures.ended ∙ h.0, c.take_rest.ensures.taken ∙ h.1)

pub returns-in-Failed-clause-stopped : goal.returns-in-Failed-clause-stopped
returns-in-Failed-clause-stopped g c over =
    let few : c.loop-self.self.taken ≤ 67108864 = subst (λ (t : ℕ). t ≤ 67108864) (ap (λ (r : Reading). r.taken) c.self.view_is) c.if-self-gt-INPUT_LIMIT.false in
    absurd (not_over c.args.self.now c.loop-self.self c.args.source.now c.loop-self.source c.loop-self.invariant.5 few over)

pub returns-in-Failed-clause-still : goal.returns-in-Failed-clause-still
returns-in-Failed-clause-still g c e =
    absurd (false≢true (sym (ap (λ (r : Reading). r.ended) (sym c.self.view_is) ∙ c.if-self.false) ∙ (c.loop-self.invariant.2.still e).0))

pub loop-self-smaller : goal.loop-self-smaller
loop-self-smaller g c =
    let f = c.fill.ensures.filled in
    let few : c.loop-self.self.taken ≤ 67108864 = subst (λ (t : ℕ). t ≤ 67108864) (ap (λ (r : Reading). r.taken) c.self.view_is) c.if-self-gt-INPUT_LIMIT.false in
    fill_smaller f.0 c.loop-self.self c.fill.new.self c.fill.result f.2 (ap (λ (r : Reading). r.ended) (sym c.self.view_is) ∙ c.if-self.false) few c.in_default-fill.not-Failed
