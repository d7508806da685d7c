use Rattle.std.proofs.Common.{◌≡◌, ◌∷◌, [], List, ◌∙◌, ap, rules}
use Rattle.cdd_reading.specs.Tokens.{Token}
use Rattle.cdd_reading.proofs.BodyLaws.{miss_first, bad_first, miss_second, bad_second, miss_third, bad_third, all_three}
use Rattle.cdd_reading.proofs.body.read_sizes.Goals as goal

pub returns-in_default : goal.returns-in_default
returns-in_default c = miss_first c.args.tokens.now c.args.end (search rules)

pub returns-then-not-is_nat : goal.returns-then-not-is_nat
returns-then-not-is_nat c =
    let a = c.in-Some in
    bad_first c.args.tokens.now c.next.new.self (a.line1, a.m.now) c.args.end (search rules) (search rules)

pub returns-in_default-next : goal.returns-in_default-next
returns-in_default-next c =
    let a = c.in-Some in
    let e : c.args.tokens.now ≡ (a.line1, a.m.now) ∷ c.next.new.self = search rules in
    let f : c.next.new.self ≡ [] = search rules in
    miss_second c.args.tokens.now (a.line1, a.m.now) c.args.end (e ∙ ap (λ (l : List Token). (a.line1, a.m.now) ∷ l) f) (search rules)

pub returns-then-not-is_width : goal.returns-then-not-is_width
returns-then-not-is_width c =
    let a = c.in-Some in
    let b = c.in-Some-next in
    let e : c.args.tokens.now ≡ (a.line1, a.m.now) ∷ c.next.new.self = search rules in
    let f : c.next.new.self ≡ (b.line2, b.d.now) ∷ c.next-2.new.self = search rules in
    bad_second c.args.tokens.now c.next-2.new.self (a.line1, a.m.now) (b.line2, b.d.now) c.args.end (e ∙ ap (λ (l : List Token). (a.line1, a.m.now) ∷ l) f) (search rules) (search rules)

pub returns-in_default-next-2 : goal.returns-in_default-next-2
returns-in_default-next-2 c =
    let a = c.in-Some in
    let b = c.in-Some-next in
    let e : c.args.tokens.now ≡ (a.line1, a.m.now) ∷ c.next.new.self = search rules in
    let f : c.next.new.self ≡ (b.line2, b.d.now) ∷ c.next-2.new.self = search rules in
    let g : c.next-2.new.self ≡ [] = search rules in
    miss_third c.args.tokens.now (a.line1, a.m.now) (b.line2, b.d.now) c.args.end (e ∙ ap (λ (l : List Token). (a.line1, a.m.now) ∷ l) f ∙ ap (λ (l : List Token). (a.line1, a.m.now) ∷ (b.line2, b.d.now) ∷ l) g) (search rules) (search rules) (search rules)

pub returns-in_default-number_type : goal.returns-in_default-number_type
returns-in_default-number_type c =
    let a = c.in-Some in
    let b = c.in-Some-next in
    let d = c.in-Some-next-2 in
    let e : c.args.tokens.now ≡ (a.line1, a.m.now) ∷ c.next.new.self = search rules in
    let f : c.next.new.self ≡ (b.line2, b.d.now) ∷ c.next-2.new.self = search rules in
    let g : c.next-2.new.self ≡ (d.line3, d.t.now) ∷ c.next-3.new.self = search rules in
    bad_third c.args.tokens.now c.next-3.new.self (a.line1, a.m.now) (b.line2, b.d.now) (d.line3, d.t.now) c.args.end (e ∙ ap (λ (l : List Token). (a.line1, a.m.now) ∷ l) f ∙ ap (λ (l : List Token). (a.line1, a.m.now) ∷ (b.line2, b.d.now) ∷ l) g) (search rules) (search rules) (search rules) (search rules)

pub returns : goal.returns
returns c =
    let a = c.in-Some in
    let b = c.in-Some-next in
    let d = c.in-Some-next-2 in
    let e : c.args.tokens.now ≡ (a.line1, a.m.now) ∷ c.next.new.self = search rules in
    let f : c.next.new.self ≡ (b.line2, b.d.now) ∷ c.next-2.new.self = search rules in
    let g : c.next-2.new.self ≡ (d.line3, d.t.now) ∷ c.next-3.new.self = search rules in
    all_three c.args.tokens.now c.next-3.new.self (a.line1, a.m.now) (b.line2, b.d.now) (d.line3, d.t.now) c.capped_number.result c.capped_number-2.result c.in-Some-number_type.number_type (e ∙ ap (λ (l : List Token). (a.line1, a.m.now) ∷ l) f ∙ ap (λ (l : List Token). (a.line1, a.m.now) ∷ (b.line2, b.d.now) ∷ l) g) (search rules) (search rules) (search rules) (search rules) c.capped_number.ensures c.capped_number-2.ensures
