-- Where a path leads over its links.
use Rattle.std.proofs.Common.{◌≡◌, ℕ, zero, suc, List, Some, None, sym, subst, ap, ◌∙◌}
use Rattle.whole_file.specs.Paths.{Paths, LeadsBy, LeadsTo, linked}

-- one link more
pub leads_more : (n : ℕ) (paths : Paths) (from to target : List ℕ) → LeadsBy n paths from to
    → paths.link to ≡ Some target → LeadsBy (suc n) paths from (linked to target)
leads_more zero paths from to target leads link =
    (target, ap paths.link (sym leads) ∙ link, ap (λ path. linked path target) leads)
leads_more (suc n) paths from to target leads link =
    (leads.0, leads.1, leads_more n paths (linked from leads.0) to target leads.2 link)

-- there is one path that is no link to which one leads
pub one_end : (n k : ℕ) (paths : Paths) (from a b : List ℕ) → LeadsBy n paths from a
    → paths.link a ≡ None → LeadsBy k paths from b → paths.link b ≡ None → a ≡ b
one_end zero zero paths from a b p enda q endb = p ∙ sym q
one_end zero (suc k) paths from a b p enda q endb =
    let link : paths.link from ≡ None = ap paths.link (sym p) ∙ enda in
    let other = q.1 in absurd (cc)
one_end (suc n) zero paths from a b p enda q endb =
    let link : paths.link from ≡ None = ap paths.link (sym q) ∙ endb in
    let other = p.1 in absurd (cc)
one_end (suc n) (suc k) paths from a b p enda q endb =
    let same : p.0 ≡ q.0 = let e = p.1 in let f = q.1 in cc in
    one_end n k paths (linked from p.0) a b p.2 enda
    (subst (λ target. LeadsBy k paths (linked from target) b) (sym same) q.2) endb

-- the two paths that are no links to which one leads are one
pub one_place : (paths : Paths) (from a b : List ℕ) → LeadsTo paths from a → LeadsTo paths from b
    → a ≡ b
one_place paths from a b p q =
    one_end p.links q.links paths from a b p.leads p.last q.leads q.last
