use Rattle.std.specs.Prelude.{◌≡◌, ℕ, List, true, length, take}
use Rattle.std.specs.List.{range_with_len}
use Rattle.std.proofs.Common.{refl, sym, ap, ◌∙◌, subst, arith}
use Rattle.std.proofs.lemmas.Bool.{false≢true}
use Rattle.std.proofs.lemmas.List.{take_all}
use Rattle.sat_matrix.specs.Near.{AreRisingFrom, IsNear, HasKept, SharesWords}
use Rattle.sat_matrix.proofs.Unions.{shared_fits, in_words}
use Rattle.sat_matrix.proofs.KeptPositions.{no_shorter}
use Rattle.sat_matrix.proofs.NearLists.{near_kept, all_within, range_rises}
use Rattle.sat_matrix.proofs.narrowing.Near.narrow.Goals as goal

pub is_whole_at-requires-clause-search : goal.is_whole_at-requires-clause-search
is_whole_at-requires-clause-search c = c.requires.search

pub unite-requires-clause-outer : goal.unite-requires-clause-outer
unite-requires-clause-outer c = λ p inside. in_words c.args.search.now.zeros.now c.words-rows.result.now c.words-rows.ensures _ (c.requires.search.outer_rises.within p inside)

pub push_sharing-requires-clause-fits : goal.push_sharing-requires-clause-fits
push_sharing-requires-clause-fits c =
    let named = c.requires.search.inner_rises.within in
    record {
      union = ap (λ (row : List ℕ). length row) c.deref.ensures.value ∙ c.in_ok-unite.ensures.wide;
      among = λ q h. in_words c.args.search.now.zeros.now c.words-rows.result.now c.words-rows.ensures _ (named q h);
      few = λ q h. shared_fits c.args.search.now.zeros.now c.words-rows.result.now c.words-rows.ensures _ _ (named q h);
    }

pub push_sharing-requires-clause-start : goal.push_sharing-requires-clause-start
push_sharing-requires-clause-start c = c.requires.near.inner_start

pub push_sharing-requires-clause-rising : goal.push_sharing-requires-clause-rising
push_sharing-requires-clause-rising c = c.requires.near.near.rising

pub push_sharing-requires-then-next-clause-fits : goal.push_sharing-requires-then-next-clause-fits
push_sharing-requires-then-next-clause-fits c =
    let whole : c.args.level.whole ≡ true = c.is_whole_at.ensures c.if-next.true in
    let named = all_within c.args.search.now.zeros.now c.deref-then-next-2.result.now (c.deref-then-next-2.ensures.value ∙ c.requires.all whole) in
    record {
      union = ap (λ (row : List ℕ). length row) c.deref-then-next.ensures.value ∙ c.in_ok-unite.ensures.wide;
      among = λ q h. in_words c.args.search.now.zeros.now c.words-rows.result.now c.words-rows.ensures _ (named q h);
      few = λ q h. shared_fits c.args.search.now.zeros.now c.words-rows.result.now c.words-rows.ensures _ _ (named q h);
    }

pub push_sharing-requires-then-next-clause-start : goal.push_sharing-requires-then-next-clause-start
push_sharing-requires-then-next-clause-start c = c.requires.near.rays_start

pub push_sharing-requires-then-next-clause-rising : goal.push_sharing-requires-then-next-clause-rising
push_sharing-requires-then-next-clause-rising c =
    let whole : c.args.level.whole ≡ true = c.is_whole_at.ensures c.if-next.true in
    let P : List ℕ → Type 0 = λ all. AreRisingFrom c.args.level.rays (length all) c.args.self.now.rays.items in
    subst P (sym (c.deref-then-next-2.ensures.value ∙ c.requires.all whole)) (c.requires.near.near_rays whole).rising

pub returns-in_ok-push_sharing-2-clause-listed : goal.returns-in_ok-push_sharing-2-clause-listed
returns-in_ok-push_sharing-2-clause-listed c = λ whole. c.requires.all (c.is_whole_at.ensures c.if-next.true)

pub returns-in_ok-push_sharing-2-clause-near : goal.returns-in_ok-push_sharing-2-clause-near
returns-in_ok-push_sharing-2-clause-near c =
    let whole : c.args.level.whole ≡ true = c.is_whole_at.ensures c.if-next.true in
    let all : List ℕ = range_with_len 0 (length c.args.search.now.zeros.now.rows) in
    let P : ℕ → Type 0 = λ start. IsNear c.args.search.now.zeros.now c.args.search.now.outer.now c.args.search.now.inner.now c.args.search.now.least c.args.from c.args.to start c.push_sharing.new.list.items in
    let Q : ℕ → Type 0 = λ start. IsNear c.args.search.now.zeros.now c.args.search.now.outer.now all c.args.search.now.least c.args.from c.args.to start c.push_sharing-then-next.new.list.items in
    let K : List ℕ → Type 0 = λ union. HasKept (SharesWords c.words-rows.result.now.rows union c.args.search.now.inner.now c.args.search.now.least) c.args.level.inner (length c.args.search.now.inner.now) c.args.self.now.inner.items c.push_sharing.new.list.items in
    let L : List ℕ → Type 0 = λ union. HasKept (SharesWords c.words-rows.result.now.rows union c.deref-then-next-2.result.now c.args.search.now.least) c.args.level.rays (length c.deref-then-next-2.result.now) c.args.self.now.rays.items c.push_sharing-then-next.new.list.items in
    let M : List ℕ → Type 0 = λ among. HasKept (SharesWords c.words-rows.result.now.rows c.unite.new.union.items among c.args.search.now.least) c.args.level.rays (length among) c.args.self.now.rays.items c.push_sharing-then-next.new.list.items in
    record {
      inner_start = omega (arith, c.len.ensures, no_shorter c.args.self.now.inner.items c.push_sharing.new.list.items c.in_ok-push_sharing.ensures.before);
      rays_start = omega (arith, c.len-2.ensures, no_shorter c.args.self.now.rays.items c.push_sharing-then-next.new.list.items c.in_ok-push_sharing-2.ensures.before);
      near = subst P (sym (let e : c.len.result ≡ length c.args.self.now.inner.items = omega (arith, c.len.ensures) in e))
          (near_kept c.args.search.now.zeros.now c.args.search.now.outer.now c.args.search.now.inner.now c.args.search.now.least c.args.from c.args.to c.args.level.inner c.args.self.now.inner.items c.requires.near.near c.words-rows.result.now c.unite.new.union.items c.push_sharing.new.list.items c.words-rows.ensures c.requires.search.outer_rises c.requires.search.inner_rises c.requires.to.1 c.in_ok-unite.ensures.union
          (subst K c.deref.ensures.value c.in_ok-push_sharing.ensures));
      near_rays = λ t. subst Q (sym (let e : c.len-2.result ≡ length c.args.self.now.rays.items = omega (arith, c.len-2.ensures) in e))
          (near_kept c.args.search.now.zeros.now c.args.search.now.outer.now all c.args.search.now.least c.args.from c.args.to c.args.level.rays c.args.self.now.rays.items (c.requires.near.near_rays whole) c.words-rows.result.now c.unite.new.union.items c.push_sharing-then-next.new.list.items c.words-rows.ensures c.requires.search.outer_rises (range_rises (length c.args.search.now.zeros.now.rows)) c.requires.to.1 c.in_ok-unite.ensures.union
          (subst M (c.deref-then-next-2.ensures.value ∙ c.requires.all whole) (subst L c.deref-then-next.ensures.value c.in_ok-push_sharing-2.ensures)));
    }

pub returns-else-next-clause-listed : goal.returns-else-next-clause-listed
returns-else-next-clause-listed c = λ whole. absurd (false≢true (sym c.if-next.false ∙ whole))

pub returns-else-next-clause-near : goal.returns-else-next-clause-near
returns-else-next-clause-near c =
    let P : ℕ → Type 0 = λ start. IsNear c.args.search.now.zeros.now c.args.search.now.outer.now c.args.search.now.inner.now c.args.search.now.least c.args.from c.args.to start c.push_sharing.new.list.items in
    let K : List ℕ → Type 0 = λ union. HasKept (SharesWords c.words-rows.result.now.rows union c.args.search.now.inner.now c.args.search.now.least) c.args.level.inner (length c.args.search.now.inner.now) c.args.self.now.inner.items c.push_sharing.new.list.items in
    record {
      inner_start = omega (arith, c.len.ensures, no_shorter c.args.self.now.inner.items c.push_sharing.new.list.items c.in_ok-push_sharing.ensures.before);
      rays_start = omega (arith, c.len-2.ensures);
      near = subst P (sym (let e : c.len.result ≡ length c.args.self.now.inner.items = omega (arith, c.len.ensures) in e))
          (near_kept c.args.search.now.zeros.now c.args.search.now.outer.now c.args.search.now.inner.now c.args.search.now.least c.args.from c.args.to c.args.level.inner c.args.self.now.inner.items c.requires.near.near c.words-rows.result.now c.unite.new.union.items c.push_sharing.new.list.items c.words-rows.ensures c.requires.search.outer_rises c.requires.search.inner_rises c.requires.to.1 c.in_ok-unite.ensures.union
          (subst K c.deref.ensures.value c.in_ok-push_sharing.ensures));
      near_rays = λ t. absurd (false≢true (sym c.if-next.false ∙ t));
    }

pub returns-in_ok-push_sharing-2-clause-begun : goal.returns-in_ok-push_sharing-2-clause-begun
returns-in_ok-push_sharing-2-clause-begun c = record {
  all = refl;
  inner = subst (λ (n : ℕ). take n c.push_sharing.new.list.items ≡ c.args.self.now.inner.items) (let e : length c.args.self.now.inner.items ≡ c.len.result = omega (arith, c.len.ensures) in e) c.in_ok-push_sharing.ensures.before;
  rays = subst (λ (n : ℕ). take n c.push_sharing-then-next.new.list.items ≡ c.args.self.now.rays.items) (let e : length c.args.self.now.rays.items ≡ c.len-2.result = omega (arith, c.len-2.ensures) in e) c.in_ok-push_sharing-2.ensures.before;
}

pub returns-else-next-clause-begun : goal.returns-else-next-clause-begun
returns-else-next-clause-begun c = record {
  all = refl;
  inner = subst (λ (n : ℕ). take n c.push_sharing.new.list.items ≡ c.args.self.now.inner.items) (let e : length c.args.self.now.inner.items ≡ c.len.result = omega (arith, c.len.ensures) in e) c.in_ok-push_sharing.ensures.before;
  rays = take_all c.len-2.result c.args.self.now.rays.items (omega (arith, c.len-2.ensures));
}

pub is_whole_at-requires-clause-to : goal.is_whole_at-requires-clause-to
is_whole_at-requires-clause-to c = c.requires.to.1

pub unite-requires-clause-to : goal.unite-requires-clause-to
unite-requires-clause-to c = c.requires.to
