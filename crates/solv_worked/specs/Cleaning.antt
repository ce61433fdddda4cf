-- Tasks in which something is cleaned.
use Rattle.std.specs.Prelude.{true, List, [], ◌∷◌, codes}
use Rattle.solv_base.specs.declared.relation.DepNode.TheVariants.{Simple, And, Namespace}
use Rattle.solv_pool.specs.declared.tasks.Task.{Task}
use Rattle.solv_pool.specs.declared.packages.Package.{Package}
use Rattle.solv_pool.specs.declared.jobs.Job.{Job}
use Rattle.solv_pool.specs.declared.jobs.Choice.{Choice}
use Rattle.solv_pool.specs.declared.jobs.Action.TheVariants.{Erase}
use Rattle.solv_worked.specs.Making.{system, one_one, plain_package, need, job, task_of}

-- a job that erases what is chosen, with what nobody needs any more
abbrev pub cleaning : Choice → Job
cleaning choice = record (job Erase choice) { cleandeps = true }

-- A, B, which requires A, and C are installed; relations 0 to 2 are their names
abbrev pub three : List Job → Task
three jobs = task_of (codes "A" ∷ codes "B" ∷ codes "C" ∷ []) (Simple 5 ∷ Simple 6 ∷ Simple 7 ∷ [])
    (plain_package system 5 one_one ∷ record (plain_package system 6 one_one) { requires_ = need 0 ∷ [] } ∷ plain_package system 7 one_one ∷ []) jobs

-- the same, and C recommends A
abbrev pub recommended : List Job → Task
recommended jobs = task_of (codes "A" ∷ codes "B" ∷ codes "C" ∷ []) (Simple 5 ∷ Simple 6 ∷ Simple 7 ∷ [])
    (plain_package system 5 one_one ∷ record (plain_package system 6 one_one) { requires_ = need 0 ∷ [] } ∷ record (plain_package system 7 one_one) { recommends = 0 ∷ [] } ∷ []) jobs

-- A is installed, L, which supplements A, and N, which supplements A & Q
abbrev pub supplemented : List Job → Task
supplemented jobs = task_of (codes "A" ∷ codes "L" ∷ codes "N" ∷ codes "Q" ∷ []) (Simple 5 ∷ Simple 8 ∷ And 0 1 ∷ [])
    (plain_package system 5 one_one ∷ record (plain_package system 6 one_one) { supplements = 0 ∷ [] } ∷ record (plain_package system 7 one_one) { supplements = 2 ∷ [] } ∷ []) jobs

-- A and B, which require each other, and C, which requires A, are installed
abbrev pub ring : List Job → Task
ring jobs = task_of (codes "A" ∷ codes "B" ∷ codes "C" ∷ []) (Simple 5 ∷ Simple 6 ∷ Simple 7 ∷ [])
    (record (plain_package system 5 one_one) { requires_ = need 1 ∷ [] } ∷ record (plain_package system 6 one_one) { requires_ = need 0 ∷ [] } ∷ record (plain_package system 7 one_one) { requires_ = need 0 ∷ [] } ∷ []) jobs

-- A, which supplements a namespace that the system has, is installed, and B, which requires A
abbrev pub of_the_system : List Job → Task
of_the_system jobs = record (task_of (codes "A" ∷ codes "B" ∷ codes "namespace:language(de)" ∷ []) (Simple 5 ∷ Simple 6 ∷ Namespace 7 ∷ [])
    (record (plain_package system 5 one_one) { supplements = 2 ∷ [] } ∷ record (plain_package system 6 one_one) { requires_ = need 0 ∷ [] } ∷ []) jobs) { namespaces = (7, 0 ∷ []) ∷ [] }
