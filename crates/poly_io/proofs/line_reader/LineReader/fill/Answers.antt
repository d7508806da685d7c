use Rattle.std.proofs.Common.{◌≡◌, ℕ, ◌+◌, ◌-◌, List, ◌++◌, length, take, drop, ap, ◌∙◌, subst}
use Rattle.std.specs.Vec.{with_items}
use Rattle.std.proofs.lemmas.List.{with_items_is}
use Rattle.poly_io.specs.LineReading.{Reading, ReadBy}
use Rattle.poly_io.proofs.NextLaws.{filled_got, filled_end, filled_failed}
use Rattle.poly_io.proofs.line_reader.LineReader.fill.Goals as goal

pub returns-in-Got-clause-filled : goal.returns-in-Got-clause-filled
returns-in-Got-clause-filled g c =
    let s = c.self.inside in
    let f = c.read_behind-kept.ensures.filled in
    let bytes = c.read_behind-kept.new.bytes in
    let full : length bytes ≡ s.bytes.len = c.read_behind-kept.ensures.same ∙ c.deref_mut.ensures.len in
    let size = c.read_behind-kept.result.0 + length f.0 in
    let read = subst (λ (xs : List ℕ). take size bytes ≡ take 65537 (take (s.end - s.start) (drop s.start xs)) ++ f.0) c.deref_mut.ensures.value f.2 in
    let behind = subst (λ (r : Reading). take size bytes ≡ take 65537 r.pending ++ f.0) c.self.view_is read in
    let told = subst (ReadBy f.0) c.in-Got.is f.3 in
    (f.0, f.1, filled_got f.0 (with_items s.bytes bytes).items bytes _ c.args.self.now c.read_behind-kept.result.0 s.taken s.ended (with_items_is s.bytes bytes full) behind (ap (λ (r : Reading). r.taken) c.self.view_is) c.in-Got.count told (ap (λ (r : Reading). r.ended) c.self.view_is))

pub returns-in-End-clause-filled : goal.returns-in-End-clause-filled
returns-in-End-clause-filled g c =
    let s = c.self.inside in
    let f = c.read_behind-kept.ensures.filled in
    let bytes = c.read_behind-kept.new.bytes in
    let full : length bytes ≡ s.bytes.len = c.read_behind-kept.ensures.same ∙ c.deref_mut.ensures.len in
    let size = c.read_behind-kept.result.0 + length f.0 in
    let read = subst (λ (xs : List ℕ). take size bytes ≡ take 65537 (take (s.end - s.start) (drop s.start xs)) ++ f.0) c.deref_mut.ensures.value f.2 in
    let behind = subst (λ (r : Reading). take size bytes ≡ take 65537 r.pending ++ f.0) c.self.view_is read in
    let told = subst (ReadBy f.0) c.in-End.is f.3 in
    (f.0, f.1, filled_end f.0 (with_items s.bytes bytes).items bytes _ c.args.self.now c.read_behind-kept.result.0 s.taken s.ended (with_items_is s.bytes bytes full) behind (ap (λ (r : Reading). r.taken) c.self.view_is) told)

pub returns-in-Failed-clause-filled : goal.returns-in-Failed-clause-filled
returns-in-Failed-clause-filled g c =
    let s = c.self.inside in
    let f = c.read_behind-kept.ensures.filled in
    let bytes = c.read_behind-kept.new.bytes in
    let full : length bytes ≡ s.bytes.len = c.read_behind-kept.ensures.same ∙ c.deref_mut.ensures.len in
    let size = c.read_behind-kept.result.0 + length f.0 in
    let read = subst (λ (xs : List ℕ). take size bytes ≡ take 65537 (take (s.end - s.start) (drop s.start xs)) ++ f.0) c.deref_mut.ensures.value f.2 in
    let behind = subst (λ (r : Reading). take size bytes ≡ take 65537 r.pending ++ f.0) c.self.view_is read in
    let told = subst (ReadBy f.0) c.in-Failed.is f.3 in
    (f.0, f.1, filled_failed f.0 (with_items s.bytes bytes).items bytes _ c.args.self.now c.read_behind-kept.result.0 s.taken s.ended (with_items_is s.bytes bytes full) behind (ap (λ (r : Reading). r.taken) c.self.view_is) told (ap (λ (r : Reading). r.ended) c.self.view_is))
