use Rattle.scrypt_kernel.proofs.cores.count.CoreCount.after_core.Given as goal

abbrev pub ghost-of : goal.ghost-of
ghost-of g a = (g.one.1, g.one.2, g.one.3)
