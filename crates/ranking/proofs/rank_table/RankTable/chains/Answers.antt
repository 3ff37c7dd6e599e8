-- The chain of each point.
use Rattle.std.proofs.Common.{ℕ, zero, suc, ◌-◌, ◌<◌, ◌≤◌, List, [], ◌∷◌, slice_index_or, subst, arith}
use Rattle.race_model.specs.Prelude.{Board}
use Rattle.race_model.specs.Positions.{count}
use Rattle.ranking.specs.Chains.{IsChain, AreChains}
use Rattle.ranking.proofs.Chains.{is_point}
use Rattle.ranking.proofs.rank_table.RankTable.chains.Goals as goal

-- what holds at six points
at_point : (P : ℕ → List ℕ → Type 0) (a b c d e f : List ℕ) →
    P 1 a → P 2 b → P 3 c → P 4 d → P 5 e → P 6 f →
    (s : ℕ) → 1 ≤ s → s ≤ 6 → P s (slice_index_or (a ∷ b ∷ c ∷ d ∷ e ∷ f ∷ []) (s - 1) [])
at_point P a b c d e f p q r t u v zero low high = absurd (omega (arith, low))
at_point P a b c d e f p q r t u v (suc zero) low high = p
at_point P a b c d e f p q r t u v (suc (suc zero)) low high = q
at_point P a b c d e f p q r t u v (suc (suc (suc zero))) low high = r
at_point P a b c d e f p q r t u v (suc (suc (suc (suc zero)))) low high = t
at_point P a b c d e f p q r t u v (suc (suc (suc (suc (suc zero))))) low high = u
at_point P a b c d e f p q r t u v (suc (suc (suc (suc (suc (suc zero)))))) low high = v
at_point P a b c d e f p q r t u v (suc (suc (suc (suc (suc (suc (suc s))))))) low high =
    absurd (omega (arith, high))

pub returns : goal.returns
returns c =
    subst
    (λ (x : Board). AreChains x (c.chain_of.result ∷ c.chain_of-2.result ∷ c.chain_of-3.result
    ∷ c.chain_of-4.result ∷ c.chain_of-5.result ∷ c.chain_of-6.result ∷ []))
    c.of-left.ensures.position
    (λ s some.
    let x = c.of-left.result.position in
    let point = is_point x s c.of-left.ensures.left.position some in
    at_point (λ n chain. 0 < count x n → IsChain x n chain) _ _ _ _ _ _ c.chain_of.ensures
    c.chain_of-2.ensures c.chain_of-3.ensures c.chain_of-4.ensures c.chain_of-5.ensures
    c.chain_of-6.ensures s point.0 point.1 some)
