mod Jobs
