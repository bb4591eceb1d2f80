-- What the jobs of all tasks ask for, one task more at a time. Assumes nothing.
use Rattle.std.proofs.Common.{◌≡◌, ℕ, ◌+◌, ◌*◌, ◌^◌, ◌<◌, ◌≤◌, Bool, true, false, cond, eqb, List, length, get_or, set, sym, refl, ap, ◌∙◌, subst, inl, inr, add-zero, add-one, arith, length-set, get_or-set_other, get_or-set_same}
use Rattle.std.proofs.lemmas.Bool.{eq-eqb, ne_eqb, cond-true, cond-false, cases_eq}
use Rattle.terms.specs.Cores.{number_of}
use Rattle.terms.specs.Sums.{sum_where}
use Rattle.terms.specs.declared.cores.Core.{Core}
use Rattle.terms.specs.Units.{Picos, Requests}
use Rattle.terms.proofs.Sums.{sum_took, sum_left}
use Rattle.tables.specs.Ranges.{no_requests, no_task, execution_on, requests_on}
use Rattle.tables.specs.declared.model.Task.{Task}
use Rattle.analysis.specs.Demand.{own_jobs, other_jobs}
use Rattle.analysis.specs.Roles.{is_ahead, is_on}
use Rattle.analysis.specs.declared.role.Role.{Role}
use Rattle.analysis.specs.declared.role.Role.TheVariants.{Aside, Ahead, Other}
use Rattle.analysis.proofs.Shares.{one_more, no_more}

abbrev count_at : List Requests → ℕ → ℕ
count_at counts q = (get_or counts q no_requests).0

-- one count raised
raised : (counts : List Requests) (n : ℕ) (v : Requests) (more : ℕ) → n < length counts → v.0 ≡ count_at counts n + more → (q : ℕ) → count_at (set counts n v) q ≡ count_at counts q + cond (eqb n q) more 0
raised counts n v more within e q =
    elim (cases_eq n q) [
      | inl same ↦
          ap (λ (x : ℕ). count_at (set counts n v) x) (sym same) ∙ ap (λ (x : Requests). x.0) (get_or-set_same counts n v no_requests within)
          ∙ e ∙ ap (λ x. count_at counts n + x) (sym (cond-true (eqb n q) more 0 (eq-eqb n q same))) ∙ ap (λ (x : ℕ). count_at counts x + cond (eqb n q) more 0) same
      | inr other ↦
          ap (λ (x : Requests). x.0) (get_or-set_other counts n q v no_requests (λ e. other (sym e)))
          ∙ sym (add-zero (count_at counts q)) ∙ ap (λ x. count_at counts q + x) (sym (cond-false (eqb n q) more 0 (ne_eqb n q other)))
    ]

at_most : (b : Bool) (more : ℕ) → more ≤ 10 ^ 10 → cond b more 0 ≤ 10 ^ 10
at_most true more h = h
at_most false more h = omega arith

-- one count raised by a share that depends on the core
raised_on : (m q : ℕ) (f : ℕ → ℕ) (more : ℕ) → more ≡ f m → cond (eqb m q) (f q) 0 ≡ cond (eqb m q) more 0
raised_on m q f more is =
    elim (cases_eq m q) [
      | inl same ↦ ap (λ n. cond (eqb m q) n 0) (sym (is ∙ ap f same))
      | inr other ↦ cond-false (eqb m q) (f q) 0 (ne_eqb m q other) ∙ sym (cond-false (eqb m q) more 0 (ne_eqb m q other))
    ]

module _ (tasks : List Task) (roles : List Role) (p t : ℕ) where
  abbrev x : ℕ → Task
  x k = get_or tasks k no_task

  abbrev role_at : ℕ → Role
  role_at k = get_or roles k Aside

  abbrev is_ahead_at : ℕ → Bool
  is_ahead_at k = is_ahead (role_at k)

  abbrev is_on_at : ℕ → ℕ → Bool
  is_on_at q k = is_on q (role_at k)

  abbrev own_time : ℕ → ℕ
  own_time k = own_jobs (x k) t * execution_on (x k) p

  abbrev own_count : ℕ → ℕ
  own_count k = own_jobs (x k) t * requests_on (x k) p

  abbrev other_count : ℕ → ℕ → ℕ
  other_count q k = other_jobs (x k) t * requests_on (x k) q

  -- what the jobs of the first k tasks ask for
  pub record Asking (k : ℕ) (execution : Picos) (requests : Requests) (others : List Requests) : Type 0 where
    pub time : execution.0 ≡ sum_where k is_ahead_at own_time
    pub own : requests.0 ≡ sum_where k is_ahead_at own_count
    pub each : (q : ℕ) → q < 4 → count_at others q ≡ sum_where k (is_on_at q) (other_count q)
    pub short : execution.0 ≤ k * 10 ^ 17
    pub few : requests.0 ≤ k * 10 ^ 10
    pub each_few : (q : ℕ) → q < 4 → count_at others q ≤ k * 10 ^ 10
    pub long : length others ≡ 4

  module _ (k : ℕ) (e : Picos) (r : Requests) (o : List Requests) (a : Asking k e r o) where
    -- a task that plays no part
    pub asking_aside : Aside ≡ role_at k → Asking (k + 1) e r o
    asking_aside is = record {
      time = sum_left is_ahead_at own_time k _ _ a.time (ap is_ahead (sym is)) refl;
      own = sum_left is_ahead_at own_count k _ _ a.own (ap is_ahead (sym is)) refl;
      each = λ q h. sum_left (is_on_at q) (other_count q) k _ _ (a.each q h) (ap (is_on q) (sym is)) refl;
      short = no_more _ _ k (10 ^ 17) refl a.short;
      few = no_more _ _ k (10 ^ 10) refl a.few;
      each_few = λ q h. no_more _ _ k (10 ^ 10) refl (a.each_few q h);
      long = a.long;
    }

    -- a task of the higher-priority set
    pub asking_ahead : (c n : ℕ) (e' : Picos) (r' : Requests) → Ahead ≡ role_at k → c ≡ own_time k → n ≡ own_count k → e'.0 ≡ e.0 + c → r'.0 ≡ r.0 + n → c ≤ 10 ^ 17 → n ≤ 10 ^ 10 → Asking (k + 1) e' r' o
    asking_ahead c n e' r' is cost count longer more short few = record {
      time = sum_took is_ahead_at own_time k _ _ _ a.time cost (ap is_ahead (sym is)) longer;
      own = sum_took is_ahead_at own_count k _ _ _ a.own count (ap is_ahead (sym is)) more;
      each = λ q h. sum_left (is_on_at q) (other_count q) k _ _ (a.each q h) (ap (is_on q) (sym is)) refl;
      short = one_more _ _ _ k (10 ^ 17) longer a.short short;
      few = one_more _ _ _ k (10 ^ 10) more a.few few;
      each_few = λ q h. no_more _ _ k (10 ^ 10) refl (a.each_few q h);
      long = a.long;
    }

    -- a task on another core
    pub asking_other : (c : Core) (n m : ℕ) (v : Requests) → Other c ≡ role_at k → m ≡ number_of c → m < 4 → n ≡ other_count (number_of c) k → v.0 ≡ count_at o m + n → n ≤ 10 ^ 10 → Asking (k + 1) e r (set o m v)
    asking_other c n m v is same within count more few =
        let up = raised o m v n (omega (arith, a.long)) more in
        let here : (q : ℕ) → cond (is_on_at q k) (other_count q k) 0 ≡ cond (eqb m q) n 0 =
        λ q. ap (λ (l : Role). cond (is_on q l) (other_count q k) 0) (sym is) ∙ ap (λ (j : ℕ). cond (eqb j q) (other_count q k) 0) (sym same)
        ∙ raised_on m q (λ j. other_count j k) n (count ∙ ap (λ (j : ℕ). other_count j k) (sym same))
        in
        record {
          time = sum_left is_ahead_at own_time k _ _ a.time (ap is_ahead (sym is)) refl;
          own = sum_left is_ahead_at own_count k _ _ a.own (ap is_ahead (sym is)) refl;
          each = λ q h. rw add-one (omega (arith, up q, a.each q h, here q));
          short = no_more _ _ k (10 ^ 17) refl a.short;
          few = no_more _ _ k (10 ^ 10) refl a.few;
          each_few = λ q h. one_more _ _ _ k (10 ^ 10) (up q) (a.each_few q h) (at_most (eqb m q) n few);
          long = length-set o m v ∙ a.long;
        }

  -- under other names
  pub moved : (k : ℕ) (e e' : Picos) (r r' : Requests) (o o' : List Requests) → e' ≡ e → r' ≡ r → o' ≡ o → Asking k e r o → Asking k e' r' o'
  moved k e e' r r' o o' same-e same-r same-o a =
      subst (λ (x : Picos). Asking k x r' o') (sym same-e) (subst (λ (x : Requests). Asking k e x o') (sym same-r) (subst (λ (x : List Requests). Asking k e r x) (sym same-o) a))
